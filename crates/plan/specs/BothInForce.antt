-- Document 01, refusal 12: "a date on or after it is in force under both".
use Rattle.std.specs.Prelude.{◌≡◌, true, ℕ, ◌≤◌}
use Rattle.calendar.specs.Date.{is_date}
use Rattle.plan.specs.declared.Plan.{Plan}
use Rattle.plan.specs.InForce.{in_force}

-- a date on or after d on which both plans are in force
pub record BothInForce (p q : Plan) (d : ℕ) : Type 0 where
  pub date : ℕ
  pub real : is_date date ≡ true
  pub later : d ≤ date
  pub one : in_force p date ≡ true
  pub two : in_force q date ≡ true
