-- The lines of a call and of a query: what it answered, or the word `refused` and the number.
use Rattle.std.specs.Prelude.{List, [], ◌∷◌, ◌++◌, ℕ, Result, Ok, Err}
use Rattle.text.specs.Decimal.{decimal}
use Rattle.text.specs.Hex.{hexadecimal}
use Rattle.text.specs.Word.{letters}
use Rattle.text_writer.specs.Value.{integer}
use Rattle.units.specs.declared.Shown.{Shown}
use Rattle.refusal.specs.declared.Refusal.{Refusal}
use Rattle.refusal.specs.Refusal.{number_of}
use Rattle.account.specs.declared.Codes.{Codes}
use Rattle.account.specs.Codes.{told}
use Rattle.plan.specs.declared.StepPrice.{StepPrice}
use Rattle.records.specs.declared.Record.{Record}
use Rattle.records.specs.declared.PlacedRecord.{PlacedRecord}

unfoldable pub refused_line : ℕ → List ℕ
refused_line n = letters "refused " ++ (decimal n ++ letters "\n")

-- codes in capital hexadecimal, each with a space before it
unfoldable pub codes_text : List ℕ → List ℕ
codes_text [] = []
codes_text (c ∷ cs) = letters " " ++ (hexadecimal c ++ codes_text cs)

-- `ok` and the codes in their order
unfoldable pub ok_line : Codes → List ℕ
ok_line k = letters "ok" ++ (codes_text (told k) ++ letters "\n")

-- the step's number and its price in ten-thousandths of a yuan
unfoldable pub step_text : StepPrice → List ℕ
step_text s = decimal s.number ++ (letters " " ++ (decimal s.price.0 ++ letters "\n"))

-- what the display shows, in ten-thousandths of a yuan
unfoldable pub display_text : Shown → List ℕ
display_text s = integer s.0 ++ letters "\n"

-- a day or month record: date, volume in hundredths, charge and closing balance in millionths of a yuan
unfoldable pub record_text : Record → List ℕ
record_text r =
    decimal r.date
    ++ (letters " " ++ (decimal r.volume.0
    ++ (letters " " ++ (decimal r.charge.0
    ++ (letters " " ++ (integer r.closing.0
    ++ letters "\n"))))))

-- a heavy day: its number in front of its record
unfoldable pub heavy_text : PlacedRecord → List ℕ
heavy_text d = decimal d.place ++ (letters " " ++ record_text d.held)

-- the line of an answer, by the text of what may be answered
abbrev pub answer_line : {T : Type 0} → (T → List ℕ) → Result T Refusal → List ℕ
answer_line text (Ok v) = text v
answer_line text (Err n) = refused_line (number_of n)

-- the line of a call
abbrev pub call_line : Result Codes Refusal → List ℕ
call_line = answer_line ok_line

-- the line of the step query
abbrev pub step_line : Result StepPrice Refusal → List ℕ
step_line = answer_line step_text

-- the line of the display query
abbrev pub display_line : Result Shown Refusal → List ℕ
display_line = answer_line display_text

-- the line of a day or month query
abbrev pub record_line : Result Record Refusal → List ℕ
record_line = answer_line record_text

-- the line of the heavy-day query
abbrev pub heavy_line : Result PlacedRecord Refusal → List ℕ
heavy_line = answer_line heavy_text
