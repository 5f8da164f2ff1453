-- The cycles of a plan follow the order of the dates. Assumes nothing.
use mathlib.Core.Path.{◌≡◌}
use mathlib.Core.Bool.{true}
use Prim.Native.Nat.{ℕ, ◌≤◌}
use Rattle.calendar.specs.Date.{is_date}
use Rattle.calendar.specs.declared.Cycle.{Cycle}
use Rattle.calendar.specs.declared.Cycle.TheVariants.{Runs}
use Rattle.calendar.proofs.Cycles.{start-rises, run-rises}
use Rattle.plan.specs.declared.Plan.{Plan}
use Rattle.plan.specs.Plan.{cycle}
use Rattle.plan.specs.Cycles.{cycle_by, cycle_of}

by-rises : (c : Cycle) (p : Plan) (a b : ℕ) → is_date a ≡ true → a ≤ b → cycle_by c p a ≤ cycle_by c p b
by-rises Runs p a b ha h = run-rises p.extra_1 p.extra_2 a b ha h
by-rises c p a b ha h = start-rises c a b h

-- a later date's cycle is not an earlier one
pub cycle-rises : (p : Plan) (a b : ℕ) → is_date a ≡ true → is_date b ≡ true → a ≤ b → cycle_of p a ≤ cycle_of p b
unfolding cycle_of
cycle-rises p a b ha hb h = by-rises (cycle p) p a b ha h
