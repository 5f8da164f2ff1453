-- Document 01, "Dates": "A stamp is a date and a second, 0 to 86,399. Second 0 belongs to the day that it begins."
use Rattle.std.specs.Prelude.{Bool, ◌&&◌, ◌||◌, ℕ, leb, ltb, eqb, Result, Ok}
use Rattle.refusal.specs.declared.Refusal.{Refusal}
use Rattle.refusal.specs.declared.Refusal.TheVariants.{Stamp as BadStamp}
use Rattle.refusal.specs.Refusal.{need}
use Rattle.calendar.specs.Date.{is_date}
use Rattle.calendar.specs.declared.Stamp.{Stamp}

abbrev pub last_second : ℕ
last_second = 86399

-- a date by the test that is given, and a second of the day
abbrev pub stamp_by : (ℕ → Bool) → Stamp → Bool
stamp_by date s = date s.date && leb s.second last_second

unfoldable pub is_stamp : Stamp → Bool
is_stamp s = stamp_by is_date s

-- "8, bad date or second"; otherwise the stamp's date
unfoldable pub dated : Stamp → Result ℕ Refusal
dated s = need (is_stamp s) BadStamp (Ok s.date)

-- whether the second stamp's date is later than the first's
abbrev pub later_date : Stamp → Stamp → Bool
later_date last s = ltb last.date s.date

-- whether the second stamp is not before the first: "9, stamp before the last accepted one"
unfoldable pub not_before : Stamp → Stamp → Bool
not_before last s = later_date last s || (eqb last.date s.date && leb last.second s.second)
