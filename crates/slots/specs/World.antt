-- What the rules take from the calendar and from plans. `real` is document 01's; what is proved of lists of calls is proved of any
-- world that keeps a few laws, and then taken at `real`.
use Rattle.std.specs.Prelude.{Bool, ℕ}
use Rattle.calendar.specs.Date.{is_date}
use Rattle.plan.specs.declared.Plan.{Plan}
use Rattle.plan.specs.Rules.{is_good}
use Rattle.plan.specs.InForce.{in_force, both_in_force}
use Rattle.plan.specs.Cycles.{cycle_of}
use Rattle.plan.specs.Charge.{step_charge}

pub record World : Type 0 where
  -- a date in the calendar
  pub date : ℕ → Bool
  -- a plan that refusals 2 to 7 let pass
  pub good : Plan → Bool
  -- a plan in force on a date
  pub in_force : Plan → ℕ → Bool
  -- two plans both in force on some date on or after a given one
  pub both_in_force : Plan → Plan → ℕ → Bool
  -- the cycle that a date lies in
  pub cycle : Plan → ℕ → ℕ
  -- the step charge of a volume
  pub charge : Plan → ℕ → ℕ

abbrev pub real : World
real = record { date = is_date; good = is_good; in_force = in_force; both_in_force = both_in_force; cycle = cycle_of; charge = step_charge }
