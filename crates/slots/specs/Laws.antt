-- The laws of the calendar, of plans and of the step charge on which demand 3 rests.
use Rattle.std.specs.Prelude.{◌≡◌, true, false, List, ℕ, ◌+◌, ◌*◌, ◌≤◌, is_ok}
use Rattle.units.specs.Volume.{highest_price}
use Rattle.plan.specs.declared.Plan.{Plan}
use Rattle.plan_record.specs.PlanRecord.{read_of, plan_in}
use Rattle.slots.specs.World.{World}

-- what its first half rests on
pub record Billing (w : World) : Type 0 where
  -- the charge: 0 at 0, and never falls
  pub charge-zero : (p : Plan) → w.charge p 0 ≡ 0
  pub charge-rises : (p : Plan) (a b : ℕ) → a ≤ b → w.charge p a ≤ w.charge p b
  -- the days in force are one period
  pub convex : (p : Plan) (a b c : ℕ) → a ≤ b → b ≤ c → w.in_force p a ≡ true → w.in_force p c ≡ true → w.in_force p b ≡ true
  -- over real dates the cycle never goes back
  pub cycle-rises : (p : Plan) (a b : ℕ) → w.date a ≡ true → w.date b ≡ true → a ≤ b → w.cycle p a ≤ w.cycle p b
  -- plans that the test of both lets pass are never both in force from its date on
  pub never-both-from : (p q : Plan) (d e : ℕ) → w.both_in_force p q d ≡ false → d ≤ e → w.in_force p e ≡ true → w.in_force q e ≡ true → ⊥

-- and what the bounds rest on besides
pub record Laws (w : World) : Type 0 where
  pub billing : Billing w
  -- a hundredth is charged at most the highest price
  pub charge-cap : (p : Plan) (u n : ℕ) → w.good p ≡ true → w.charge p (u + n) ≤ w.charge p u + n * highest_price
  -- and so from a later date on, and the other way round
  pub not-both-later : (p q : Plan) (d e : ℕ) → d ≤ e → w.both_in_force p q d ≡ false → w.both_in_force p q e ≡ false
  pub not-both-swapped : (p q : Plan) (d : ℕ) → w.both_in_force p q d ≡ false → w.both_in_force q p d ≡ false
  -- 0 is no date, so a clock at 0 is no clock
  pub no-date : w.date 0 ≡ false
  -- a plan that was read is one that refusals 2 to 7 let pass
  pub read-good : (bytes : List ℕ) → is_ok (read_of bytes) ≡ true → w.good (plan_in (read_of bytes)) ≡ true
