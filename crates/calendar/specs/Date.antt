-- Document 01, "Dates": "A date is YYYYMMDD, 20000101 to 20991231, real in the calendar; every fourth year from 2000 is a leap year."
use Rattle.std.specs.Prelude.{Bool, cond, ◌&&◌, ◌||◌, ℕ, ◌/◌, ◌%◌, leb, eqb}

-- YYYYMMDD
abbrev pub year_of : ℕ → ℕ
year_of d = d / 10000

abbrev pub month_of : ℕ → ℕ
month_of d = d / 100 % 100

abbrev pub day_of : ℕ → ℕ
day_of d = d % 100

abbrev pub first_date : ℕ
first_date = 20000101

abbrev pub last_date : ℕ
last_date = 20991231

-- "every fourth year from 2000 is a leap year"
unfoldable pub is_leap : ℕ → Bool
is_leap y = eqb (y % 4) 0

-- April, June, September and November
abbrev pub is_short : ℕ → Bool
is_short m = eqb m 4 || (eqb m 6 || (eqb m 9 || eqb m 11))

-- how many days month m of the year y has
unfoldable pub days_in : ℕ → ℕ → ℕ
days_in y m = cond (eqb m 2) (cond (is_leap y) 29 28) (cond (is_short m) 30 31)

-- "real in the calendar"
unfoldable pub is_day : ℕ → ℕ → ℕ → Bool
is_day y m d = leb 1 m && (leb m 12 && (leb 1 d && leb d (days_in y m)))

unfoldable pub is_date : ℕ → Bool
is_date d = leb first_date d && (leb d last_date && is_day (year_of d) (month_of d) (day_of d))
