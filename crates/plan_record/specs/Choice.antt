-- Document 01, "Queries": "The record in force: of two lent plan records, the part handed back is the one in force on a date." Refusals:
-- 8; "1 to 7 for the first record, then the second; 24, neither; 12, both".
use Rattle.std.specs.Prelude.{Bool, true, false, List, [], ℕ, Result, Ok, Err}
use Rattle.std.specs.Borrow.{Bor}
use Rattle.refusal.specs.declared.Refusal.{Refusal}
use Rattle.refusal.specs.declared.Refusal.TheVariants.{Stamp, Overlap, NoPlan}
use Rattle.refusal.specs.Refusal.{need}
use Rattle.calendar.specs.Date.{is_date}
use Rattle.plan.specs.declared.Plan.{Plan}
use Rattle.plan.specs.InForce.{in_force}
use Rattle.plan_record.specs.declared.Which.{Which}
use Rattle.plan_record.specs.declared.Which.TheVariants.{First, Second}
use Rattle.plan_record.specs.PlanRecord.{read_of}

-- the one of two that is in force
abbrev pub one_in_force : Bool → Bool → Result Which Refusal
one_in_force true true = Err Overlap
one_in_force true false = Ok First
one_in_force false true = Ok Second
one_in_force false false = Err NoPlan

-- a reading's refusal, or what follows of the plan that was read
abbrev pub of_plan : {T : Type 0} → Result Plan Refusal → (Plan → Result T Refusal) → Result T Refusal
of_plan (Ok p) f = f p
of_plan (Err n) f = Err n

unfoldable pub choice_of : List ℕ → List ℕ → ℕ → Result Which Refusal
choice_of first second d =
    need (is_date d) Stamp
    (of_plan (read_of first) (λ p. of_plan (read_of second) (λ q. one_in_force (in_force p d) (in_force q d))))

-- "two lent byte slices in, a returned part of the first or the second, or a refusal": the reference that is handed back is one of the two
abbrev pub part_chosen : Result Which Refusal → Bor (List ℕ) → Bor (List ℕ) → Result (Bor (List ℕ)) Refusal
part_chosen (Ok First) x y = Ok x
part_chosen (Ok Second) x y = Ok y
part_chosen (Err n) x y = Err n

-- the bytes that a choice hands back: one of the two, or none
abbrev pub part_of : Result Which Refusal → List ℕ → List ℕ → List ℕ
part_of (Ok First) x y = x
part_of (Ok Second) x y = y
part_of (Err n) x y = []

-- the reference that a choice hands back: the first or the second itself; on a refusal an empty part, r
abbrev pub handed : Result Which Refusal → Bor (List ℕ) → Bor (List ℕ) → Bor (List ℕ) → Bor (List ℕ)
handed (Ok First) x y r = x
handed (Ok Second) x y r = y
handed (Err n) x y r = r
