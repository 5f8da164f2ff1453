-- Document 01, "Days in force and cycles": which cycle a date lies in. A cycle of words 01 to 03 is named by its first date.
use Rattle.std.specs.Prelude.{cond, ℕ, suc, ◌+◌, ◌-◌, ◌*◌, ◌/◌, leb, ltb, eqb}
use Rattle.calendar.specs.declared.Cycle.{Cycle}
use Rattle.calendar.specs.declared.Cycle.TheVariants.{Whole, Month, Quarter, Year, Window, Runs}
use Rattle.calendar.specs.Date.{year_of, month_of}
use Rattle.calendar.specs.DayNumber.{day_number}

-- what a cycle word says: 01 to 05 as below, any other the whole time in force
abbrev pub cycle_named : ℕ → Cycle
cycle_named w = cond (eqb w 1) Month (cond (eqb w 2) Quarter (cond (eqb w 3) Year (cond (eqb w 4) Window (cond (eqb w 5) Runs Whole))))

-- "01 calendar month"
unfoldable pub month_start : ℕ → ℕ
month_start d = d / 100 * 100 + 1

-- "02 quarter from January, April, July, October"
abbrev pub quarter_month : ℕ → ℕ
quarter_month m = cond (leb m 3) 1 (cond (leb m 6) 4 (cond (leb m 9) 7 10))

unfoldable pub quarter_start : ℕ → ℕ
quarter_start d = year_of d * 10000 + (quarter_month (month_of d) * 100 + 1)

-- "03 year"
unfoldable pub year_start : ℕ → ℕ
year_start d = year_of d * 10000 + 101

-- the first date of the calendar cycle that a date lies in; 0 for a cycle that is none
unfoldable pub cycle_start : Cycle → ℕ → ℕ
cycle_start Month d = month_start d
cycle_start Quarter d = quarter_start d
cycle_start Year d = year_start d
cycle_start _ d = 0

-- "05 runs of N days from the first cycle day, the dates before that day being one cycle": 0 before it, then 1, 2, ..
unfoldable pub run_of : ℕ → ℕ → ℕ → ℕ
run_of first n d = cond (ltb d first) 0 (suc ((day_number d - day_number first) / n))
