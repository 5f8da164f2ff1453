-- What a real date is, part by part, and that day numbers follow the order of the dates. None of it sees the leap rule. Assumes nothing.
use mathlib.Core.Path.{◌≡◌}
use mathlib.Core.Bool.{true}
use Prim.Native.Nat.{ℕ, zero, suc, ◌+◌, ◌-◌, ◌≤◌, ◌<◌}
use native.Mathlib.Omega.{arith}
use lib.Dec.{leb, ltb}
use borrow.Author.Tests.{leb-true, leb-false, ltb-true, ltb-false}
use Rattle.calendar.specs.Date.{year_of, month_of, day_of, first_date, last_date, days_in, is_day, is_date}
use Rattle.calendar.specs.DayNumber.{days_of_months, days_of_years, day_number}
use Rattle.refusal.proofs.Tests.{cases, split}
use Rattle.calendar.proofs.Lengths.{months-more}

-- the parts of a real date
pub record Real (d : ℕ) : Type 0 where
  pub from : first_date ≤ d
  pub to : d ≤ last_date
  pub year-from : year_of first_date ≤ year_of d
  pub year-to : year_of d ≤ year_of last_date
  pub month-from : 1 ≤ month_of d
  pub month-to : month_of d ≤ 12
  pub day-from : 1 ≤ day_of d
  pub day-to : day_of d ≤ days_in (year_of d) (month_of d)

-- what `is_date` says of a date
pub real : (d : ℕ) → is_date d ≡ true → Real d
unfolding is_date is_day
real d h =
    let h₁ = split {a = leb first_date d} h in
    let h₂ = split {a = leb d last_date} h₁.1 in
    let h₃ = split {a = leb 1 (month_of d)} h₂.1 in
    let h₄ = split {a = leb (month_of d) 12} h₃.1 in
    let h₅ = split {a = leb 1 (day_of d)} h₄.1 in
    let from = leb-true first_date d h₁.0 in
    let to = leb-true d last_date h₂.0 in
    record {
      from = from;
      to = to;
      year-from = omega arith;
      year-to = omega arith;
      month-from = leb-true _ _ h₃.0;
      month-to = leb-true _ _ h₄.0;
      day-from = leb-true _ _ h₅.0;
      day-to = leb-true _ _ h₅.1;
    }

-- what rises with each step rises over many
pub climbs : (f : ℕ → ℕ) → ((k : ℕ) → f k ≤ f (suc k)) → (j k : ℕ) → j ≤ k → f j ≤ f k
climbs f s j zero h = let e : j ≡ 0 = omega arith in rw e (omega arith)
climbs f s j (suc k) h =
    cases (leb j k)
    (λ e. let below = climbs f s j k (leb-true j k e) in omega (arith, s k))
    (λ e. let top : j ≡ suc k = omega (arith, leb-false j k e) in rw top (omega arith))

-- more months have no fewer days
months-climb : (y j k : ℕ) → j ≤ k → days_of_months y j ≤ days_of_months y k
unfolding days_of_months
months-climb y = climbs (days_of_months y) (λ k. omega arith)

-- more years have no fewer days
years-climb : (j k : ℕ) → j ≤ k → days_of_years j ≤ days_of_years k
unfolding days_of_years
years-climb = climbs days_of_years (λ k. omega arith)

-- a date comes before its month's end
before-month : (d : ℕ) → Real d → days_of_months (year_of d) (month_of d - 1) + (day_of d - 1) < days_of_months (year_of d) (month_of d)
before-month d r = omega (arith, months-more (year_of d) (month_of d) r.month-from, r.day-from, r.day-to)

-- a date comes before its year's end
before-year : (d : ℕ) → Real d → day_number d < days_of_years (suc (year_of d - 2000))
unfolding day_number days_of_years
before-year d r =
    let e : 2000 + (year_of d - 2000) ≡ year_of d = omega (arith, r.year-from) in
    rw e (omega (arith, before-month d r, months-climb (year_of d) (month_of d) 12 r.month-to))

-- a date of a later year
later-year : (a b : ℕ) → Real a → year_of a < year_of b → day_number a < day_number b
unfolding day_number
later-year a b p h =
    let years = years-climb (suc (year_of a - 2000)) (year_of b - 2000) (omega (arith, p.year-from)) in
    omega (arith, before-year a p, years)

-- a date of a later month of the same year
later-month : (a b : ℕ) → Real a → year_of a ≡ year_of b → month_of a < month_of b → day_number a < day_number b
unfolding day_number
later-month a b p e h =
    let months = months-climb (year_of a) (month_of a) (month_of b - 1) (omega arith) in
    rw (← e) (omega (arith, before-month a p, months))

-- a date of the same month
same-month : (a b : ℕ) → Real a → year_of a ≡ year_of b → month_of a ≡ month_of b → day_of a ≤ day_of b → day_number a ≤ day_number b
unfolding day_number
same-month a b p e m h = rw (e, m) (omega (arith, p.day-from))

-- a later real date has no smaller day number
pub number-keeps : (a b : ℕ) → is_date a ≡ true → a ≤ b → day_number a ≤ day_number b
number-keeps a b ha h =
    let p = real a ha in
    cases (ltb (year_of a) (year_of b))
    (λ t. omega (arith, later-year a b p (ltb-true (year_of a) (year_of b) t)))
    (λ t.
    let e : year_of a ≡ year_of b = omega (arith, ltb-false (year_of a) (year_of b) t) in
    cases (ltb (month_of a) (month_of b))
    (λ u. omega (arith, later-month a b p e (ltb-true (month_of a) (month_of b) u)))
    (λ u.
    let m : month_of a ≡ month_of b = omega (arith, ltb-false (month_of a) (month_of b) u) in
    same-month a b p e m (omega arith)))
