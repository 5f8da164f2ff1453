-- What is read fits the buffer; each turn reads more.
use Rattle.std.proofs.Common.{length, ◌-◌, ◌≤◌}
use Rattle.plan_printer.proofs.read_full.Given as goal

abbrev pub invariant-loop-done : goal.invariant-loop-done
invariant-loop-done g l = l.done ≤ length l.records

abbrev pub decreases-loop-done : goal.decreases-loop-done
decreases-loop-done g l = length l.initial.records - l.done
