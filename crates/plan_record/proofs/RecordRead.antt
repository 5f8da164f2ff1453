-- What is known of a record that is read. Assumes nothing.
use mathlib.Core.Path.{◌≡◌, refl, sym, ap, ◌∙◌}
use mathlib.Core.Bool.{Bool, true, false, true≢false}
use mathlib.Core.List.{List}
use Prim.Native.Nat.{ℕ}
use lib.Dec.{eqb}
use lib.ListN.{length}
use Rattle.std.specs.Prelude.{⊤, Result, Ok, Err, is_ok}
use Rattle.refusal.specs.declared.Refusal.{Refusal}
use Rattle.refusal.specs.declared.Refusal.TheVariants.{RecordLength}
use Rattle.refusal.specs.Refusal.{need, next}
use Rattle.plan.specs.declared.Plan.{Plan}
use Rattle.plan.specs.Plan.{cleared}
use Rattle.plan.specs.Rules.{plan_refusal, is_good}
use Rattle.plan.proofs.GoodPlan.{good-refusal}
use Rattle.plan.proofs.Cleared.{cleared-good}
use Rattle.plan_record.specs.Fields.{record_length, fields_of}
use Rattle.plan_record.specs.PlanRecord.{read_of, plan_in}

-- a reading that accepts: its tests do, and it has the plan behind them
accepts : (t : Bool) (n : Refusal) (v : Result ⊤ Refusal) (p : Plan)
    → is_ok (need t n (next v (Ok p))) ≡ true → (v ≡ Ok tt) × (need t n (next v (Ok p)) ≡ Ok p)
accepts true n (Ok tt) p h = (refl, refl)
accepts true n (Err e) p h = absurd (true≢false (sym h))
accepts false n v p h = absurd (true≢false (sym h))

module _ (s : List ℕ) (h : is_ok (read_of s) ≡ true) where
  accepted : (plan_refusal (fields_of s) ≡ Ok tt) × (read_of s ≡ Ok (cleared (fields_of s)))
  unfolding read_of
  accepted = accepts (eqb (length s) record_length) RecordLength (plan_refusal (fields_of s)) (cleared (fields_of s)) h

  -- none of the refusals 2 to 7 refuses its fields
  pub read-refusal : plan_refusal (fields_of s) ≡ Ok tt
  read-refusal = accepted.0

  -- the plan is its read fields
  pub read-plan : plan_in (read_of s) ≡ cleared (fields_of s)
  read-plan = ap plan_in accepted.1

  pub fields-good : is_good (fields_of s) ≡ true
  fields-good = good-refusal (fields_of s) read-refusal

-- A PLAN THAT WAS READ IS GOOD
pub read-good : (s : List ℕ) → is_ok (read_of s) ≡ true → is_good (plan_in (read_of s)) ≡ true
read-good s h = rw (read-plan s h) (cleared-good (fields_of s) ∙ fields-good s h)
