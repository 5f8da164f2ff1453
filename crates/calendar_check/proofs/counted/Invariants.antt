-- Each number adds one to the count's numbers, so its figures stay small.
use Rattle.std.proofs.Common.{◌≡◌, ◌+◌}
use Rattle.calendar_check.specs.Count.{Counted}
use Rattle.calendar_check.proofs.counted.Given as goal

abbrev pub invariant-loop-n : goal.invariant-loop-n
invariant-loop-n l = record { counted : Counted l.t; numbers : l.t.numbers + 19990000 ≡ l.n }
