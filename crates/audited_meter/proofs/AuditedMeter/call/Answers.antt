-- The ledger is told the arguments of an accepted call.
use Rattle.std.proofs.Common.{◌∙◌}
use Rattle.meter.specs.Call.{call_of}
use Rattle.running_ledger.specs.SameLedger.{fed_running}
use Rattle.audited_meter.proofs.AfterCall.{fed}
use Rattle.audited_meter.proofs.AuditedMeter.call.Goals as goal

pub returns-in-Ok : goal.returns-in-Ok
unfolding fed_running
returns-in-Ok c =
    fed c.args.self (call_of c.args.c c.args.bytes.now) _ _ _ _ _ c.call-answer.ensures c.settle-done.ensures (c.entered-running.ensures ∙ rw c.in-Ok.is)

pub returns-in-Err : goal.returns-in-Err
unfolding fed_running
returns-in-Err c =
    fed c.args.self (call_of c.args.c c.args.bytes.now) _ _ _ _ _ c.call-answer.ensures c.settle-done.ensures (rw c.in-Err.is)
