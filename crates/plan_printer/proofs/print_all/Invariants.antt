-- Both buffers keep their lengths.
use Rattle.std.proofs.Common.{◌≡◌, length}
use Rattle.plan_printer.proofs.print_all.Given as goal

abbrev pub invariant-loop : goal.invariant-loop
invariant-loop g l = record { records : length l.records ≡ length l.fn.records; text : length l.text ≡ length l.fn.text }
