-- How far a count's figures can have come with the numbers that it has seen.
use Rattle.std.specs.Prelude.{◌*◌, ◌≤◌}
use Rattle.calendar_check.specs.declared.Count.{Count}

pub record Counted (t : Count) : Type 0 where
  pub days : t.next.number ≤ t.numbers
  pub dates : t.dates ≤ t.numbers
  pub differences : t.differences ≤ 4 * t.numbers
