-- What a call leaves of the audited meter, by what the machine answers.
use mathlib.Core.Path.{◌≡◌, ap}
use mathlib.Core.List.{List}
use Prim.Native.Nat.{ℕ}
use Rattle.std.specs.Prelude.{Result, is_ok}
use Rattle.refusal.specs.declared.Refusal.{Refusal}
use Rattle.account.specs.declared.Codes.{Codes}
use Rattle.meter.specs.declared.Machine.{Machine}
use Rattle.meter.specs.declared.Accepted.{Accepted}
use Rattle.meter.specs.Call.{Call}
use Rattle.meter.specs.Machine.{AfterCall, meter_of, machine_by, done_by, Answers}
use Rattle.running_ledger.specs.declared.RunningLedger.{RunningLedger}
use Rattle.running_ledger.specs.SameLedger.{fed_running}
use Rattle.audited_meter.specs.declared.AuditedMeter.{AuditedMeter}
use Rattle.audited_meter.specs.declared.CallResult.{CallResult}
use Rattle.audited_meter.specs.AuditedMeter.{called}

abbrev after_on : AuditedMeter → Call → AfterCall → CallResult
after_on d c l = record { audited = record { meter = l.meter; running = fed_running d.running c (is_ok l.done) }; done = l.done }

pub fed : (d : AuditedMeter) (c : Call) (r : Result Accepted Refusal) (words : List ℕ) (a : Machine) (k : Result Codes Refusal) (b : RunningLedger) →
    Answers d.meter c r words → (a ≡ machine_by d.meter.machine r) × (k ≡ done_by r) → b ≡ fed_running d.running c (is_ok k) →
    ◌≡◌ {A = CallResult} (record { audited = record { meter = meter_of a words; running = b }; done = k }) (called d c)
unfolding called
fed d c r words a k b e s f = rw (f, s.0, s.1) (ap (after_on d c) e)
