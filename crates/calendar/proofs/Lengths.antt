-- How long months and years are, and that the day number of any number fits. Only `years-before` sees the leap rule itself. Assumes nothing.
use mathlib.Core.Path.{◌≡◌, refl}
use mathlib.Core.Bool.{cond}
use Prim.Native.Nat.{ℕ, zero, suc, ◌+◌, ◌-◌, ◌*◌, ◌/◌, ◌%◌, ◌^◌, ◌≤◌, ◌<◌}
use native.Mathlib.Nat.{div-le_self}
use native.Mathlib.Omega.{arith}
use lib.Dec.{eqb}
use borrow.Author.Tests.{eqb-true, eqb-false}
use Rattle.calendar.specs.Date.{year_of, month_of, is_leap, is_short, days_in}
use Rattle.calendar.specs.DayNumber.{days_of_months, days_of_years, day_number}
use Rattle.refusal.proofs.Tests.{cases}

-- a month has 31 days at most
pub month-bound : (y m : ℕ) → days_in y m ≤ 31
unfolding days_in
month-bound y m =
    cases (eqb m 2)
    (λ e. cases (is_leap y) (λ f. rw (e, f) (omega arith)) (λ f. rw (e, f) (omega arith)))
    (λ e. cases (is_short m) (λ f. rw (e, f) (omega arith)) (λ f. rw (e, f) (omega arith)))

-- and k months have 31 each at most
pub months-bound : (y k : ℕ) → days_of_months y k ≤ 31 * k
unfolding days_of_months
months-bound y zero = omega arith
months-bound y (suc k) = omega (arith, months-bound y k, month-bound y (suc k))

-- the months up to month m are those before it, and it
pub months-more : (y m : ℕ) → 1 ≤ m → days_of_months y m ≡ days_of_months y (m - 1) + days_in y m
unfolding days_of_months
months-more y zero h = absurd (omega arith)
months-more y (suc k) h = let e : suc k - 1 ≡ k = omega arith in rw e

-- a year has 365 days, a leap year one more
year : (y : ℕ) → days_of_months y 12 ≡ 365 + cond (is_leap y) 1 0
unfolding days_of_months days_in
year y = cases (is_leap y) (λ e. rw e) (λ e. rw e)

-- the days of the k years from 2000 on in one sum
pub years-before : (k : ℕ) → days_of_years k ≡ 365 * k + (k + 3) / 4
unfolding days_of_years is_leap
years-before zero = refl
years-before (suc k) =
    cases (is_leap (2000 + k))
    (λ e. rw (years-before k, year (2000 + k), e) (omega (arith, eqb-true ((2000 + k) % 4) 0 e)))
    (λ e. rw (years-before k, year (2000 + k), e) (omega (arith, eqb-false ((2000 + k) % 4) 0 e)))

-- a number of 32 bits has a day number of 31
pub number-fits : (d : ℕ) → d < 2 ^ 32 → day_number d < 2 ^ 31
unfolding day_number
number-fits d h = omega (arith, years-before (year_of d - 2000), months-bound (year_of d) (month_of d - 1))

-- what a number of days needs, so that its sums fit
pub ruleset days = (month-bound, months-bound, years-before)

-- and what a number of runs needs
pub ruleset runs = (number-fits, div-le_self)
