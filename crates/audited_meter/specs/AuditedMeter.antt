-- A meter with the ledger beside it: "It is fed each call's arguments and whether the call was accepted, and takes nothing else from the
-- meter."
use Rattle.std.specs.Prelude.{◌≡◌, List, [], ◌∷◌, pos, ◌-ℤ◌, is_ok}
use Rattle.meter.specs.Call.{Call}
use Rattle.meter.specs.Machine.{fresh_meter, after_call}
use Rattle.running_ledger.specs.RunningLedger.{blank_running, running_sum}
use Rattle.running_ledger.specs.SameLedger.{fed_running}
use Rattle.audited_meter.specs.declared.AuditedMeter.{AuditedMeter}
use Rattle.audited_meter.specs.declared.CallResult.{CallResult}

unfoldable pub new_audited : AuditedMeter
new_audited = record { meter = fresh_meter; running = blank_running }

-- a call runs on the meter; the ledger is told its arguments where it was accepted
unfoldable pub called : AuditedMeter → Call → CallResult
called d c = record {
  audited = record { meter = (after_call d.meter c).meter; running = fed_running d.running c (is_ok (after_call d.meter c).done) };
  done = (after_call d.meter c).done;
}

-- the audited meter after a list of calls
unfoldable pub audited_after_calls : AuditedMeter → List Call → AuditedMeter
audited_after_calls d [] = d
audited_after_calls d (c ∷ cs) = audited_after_calls (called d c).audited cs

-- the ledger's sum is recharges minus balance, whatever calls were made
abbrev pub Agrees : AuditedMeter → Type 0
Agrees d = pos d.running.recharged.0 -ℤ d.meter.machine.registers.account.balance.0 ≡ pos (running_sum d.running)

abbrev pub AlwaysAgrees : Type 0
AlwaysAgrees = (cs : List Call) → Agrees (audited_after_calls new_audited cs)
