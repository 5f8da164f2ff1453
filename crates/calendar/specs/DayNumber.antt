-- Days counted from 20000101 as 0.
use Rattle.std.specs.Prelude.{ℕ, zero, suc, ◌+◌, ◌-◌}
use Rattle.calendar.specs.Date.{year_of, month_of, day_of, days_in}

-- the days of the first k months of the year y
unfoldable pub days_of_months : ℕ → ℕ → ℕ
days_of_months y zero = 0
days_of_months y (suc k) = days_of_months y k + days_in y (suc k)

-- the days of the k years from 2000 on
unfoldable pub days_of_years : ℕ → ℕ
days_of_years zero = 0
days_of_years (suc k) = days_of_years k + days_of_months (2000 + k) 12

-- the days of the years before, of the months before in its year, and of the days before in its month
unfoldable pub day_number : ℕ → ℕ
day_number d = days_of_years (year_of d - 2000) + (days_of_months (year_of d) (month_of d - 1) + (day_of d - 1))
