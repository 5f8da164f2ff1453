-- "a plan record written and then read gives the same plan, and one read and then written gives the same bytes in every field that the
-- standard reads"
use Rattle.std.specs.Prelude.{◌≡◌, true, List, ℕ, ◌<◌, length, get_or, Ok, is_ok}
use Rattle.plan.specs.declared.Plan.{Plan}
use Rattle.plan.specs.Plan.{cleared}
use Rattle.plan_record.specs.Fields.{record_length}
use Rattle.plan_record.specs.PlanRecord.{read_of, plan_in, write_answer, written, read_byte}

-- what the writer accepts is read back from the buffer, its read fields alone
abbrev pub WrittenRead : Type 0
WrittenRead = (p : Plan) (out : List ℕ) → write_answer p out ≡ Ok tt → read_of (written p out) ≡ Ok (cleared p)

-- what the reader accepts the writer accepts, and the buffer then has its bytes, zero where they are not read
abbrev pub ReadWritten : Type 0
ReadWritten =
    (s out : List ℕ) → is_ok (read_of s) ≡ true → length out ≡ record_length
    → (write_answer (plan_in (read_of s)) out ≡ Ok tt)
    × ((i : ℕ) → i < record_length → get_or (written (plan_in (read_of s)) out) i 0 ≡ read_byte s i)

abbrev pub RoundTrips : Type 0
RoundTrips = WrittenRead × ReadWritten
