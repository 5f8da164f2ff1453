-- Document 01, "Read a plan" and "Write a plan".
use Rattle.std.specs.Prelude.{cond, List, ℕ, eqb, length, get_or, ⊤, Result, Ok, Err, is_ok}
use Rattle.refusal.specs.declared.Refusal.{Refusal}
use Rattle.refusal.specs.declared.Refusal.TheVariants.{RecordLength, BufferLength}
use Rattle.refusal.specs.Refusal.{need, next}
use Rattle.plan.specs.declared.Plan.{Plan}
use Rattle.plan.specs.Plan.{cleared, no_plan}
use Rattle.plan.specs.Rules.{plan_refusal}
use Rattle.plan_record.specs.Fields.{record_length, fields_of, bytes_of, byte_read}

-- "Read a plan: 1, length not 66", then 2 to 7; the plan's read fields where none refuses
unfoldable pub read_of : List ℕ → Result Plan Refusal
read_of s = need (eqb (length s) record_length) RecordLength (next (plan_refusal (fields_of s)) (Ok (cleared (fields_of s))))

-- the plan that was read, no plan where it is refused
abbrev pub plan_in : Result Plan Refusal → Plan
plan_in (Ok p) = p
plan_in (Err n) = no_plan

-- "Write a plan: 26, buffer not 66 bytes; then 2 to 7"
unfoldable pub write_answer : Plan → List ℕ → Result ⊤ Refusal
write_answer p out = need (eqb (length out) record_length) BufferLength (plan_refusal p)

-- what the buffer holds then: the read fields, and zero in the bytes that are not read; on a refusal it stands as before
unfoldable pub written : Plan → List ℕ → List ℕ
written p out = cond (is_ok (write_answer p out)) (bytes_of (cleared p)) out

-- byte i of a record where it is read, zero elsewhere
abbrev pub read_byte : List ℕ → ℕ → ℕ
read_byte s i = cond (byte_read (fields_of s) i) (get_or s i 0) 0
