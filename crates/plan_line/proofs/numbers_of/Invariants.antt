-- After each turn the pairs so far stand behind the other numbers.
use Rattle.std.proofs.Common.{◌≡◌, ◌++◌, length}
use Rattle.plan_line.specs.Line.{head_of, pairs_from}
use Rattle.plan_line.proofs.numbers_of.Given as goal

abbrev pub invariant-loop-width : goal.invariant-loop-width
invariant-loop-width l = l.numbers.items ≡ head_of l.fn.p ++ pairs_from l.fn.p (length l.yielded) 0
