-- The first m months have been added.
use Rattle.std.proofs.Common.{◌≡◌}
use Rattle.calendar.specs.DayNumber.{days_of_months}
use Rattle.calendar.proofs.days_of_months.Given as goal

abbrev pub invariant-loop-m : goal.invariant-loop-m
invariant-loop-m l = l.n ≡ days_of_months l.y l.m
