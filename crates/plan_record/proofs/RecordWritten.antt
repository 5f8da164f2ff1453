-- What writing answers and leaves in the buffer, from its length and what the refusals 2 to 7 say. Assumes nothing.
use mathlib.Core.Path.{◌≡◌}
use mathlib.Core.Bool.{true}
use mathlib.Core.List.{List}
use Prim.Native.Nat.{ℕ}
use lib.Dec.{eqb}
use lib.ListN.{length}
use borrow.Author.Tests.{eq-eqb}
use Rattle.std.specs.Prelude.{Ok}
use Rattle.refusal.specs.declared.Refusal.TheVariants.{BufferLength}
use Rattle.refusal.proofs.Tests.{need-rest}
use Rattle.plan.specs.declared.Plan.{Plan}
use Rattle.plan.specs.Plan.{cleared}
use Rattle.plan.specs.Rules.{plan_refusal, is_good}
use Rattle.plan.proofs.GoodPlan.{good-refusal}
use Rattle.plan_record.specs.Fields.{record_length, bytes_of}
use Rattle.plan_record.specs.PlanRecord.{write_answer, written}

-- into a buffer of a record's length the answer is that of the refusals 2 to 7
pub judged : (p : Plan) (out : List ℕ) → length out ≡ record_length → write_answer p out ≡ plan_refusal p
unfolding write_answer
judged p out h = rw (eq-eqb _ _ h)

-- an accepted plan is good, and the buffer has its read fields
pub filled : (p : Plan) (out : List ℕ) → write_answer p out ≡ Ok tt → (is_good p ≡ true) × (written p out ≡ bytes_of (cleared p))
unfolding write_answer written
filled p out h = (good-refusal p (need-rest (eqb (length out) record_length) BufferLength (plan_refusal p) h), rw h)
