-- Document 01, "The plan printer": "reads 66-byte records from standard input and prints a line each .. A short last record is refused 1."
use Rattle.std.specs.Prelude.{List, [], ◌++◌, ℕ, zero, suc, ◌+◌, ◌-◌, ◌*◌, ◌/◌, length, take, drop}
use Rattle.plan_record.specs.Fields.{record_length}
use Rattle.plan_line.specs.Line.{line_of}

-- how many records a list of bytes has, a short last one among them
unfoldable pub records_in : List ℕ → ℕ
records_in s = (length s + (record_length - 1)) / record_length

-- record i, counted from 0
unfoldable pub record_at : List ℕ → ℕ → List ℕ
record_at s i = take record_length (drop (record_length * i) s)

-- the lines of the first n records
unfoldable pub lines_to : List ℕ → ℕ → List ℕ
lines_to s zero = []
lines_to s (suc n) = lines_to s n ++ line_of (record_at s n)

unfoldable pub lines_of : List ℕ → List ℕ
lines_of s = lines_to s (records_in s)
