-- Cycles follow the order of the dates. How days are numbered is seen only through the laws of `Days`. Assumes nothing.
use mathlib.Core.Path.{◌≡◌}
use mathlib.Core.Bool.{true, cond}
use Prim.Native.Nat.{ℕ, zero, suc, ◌+◌, ◌-◌, ◌/◌, ◌≤◌, ◌<◌}
use native.Mathlib.Nat.{le_trans, le-div_iff_mul-le, div-mul-le_self, div-zero}
use native.Mathlib.Numerals.{add-one}
use native.Mathlib.Omega.{arith}
use lib.Dec.{leb, ltb}
use borrow.Author.Tests.{leb-true, ltb-true, ltb-false, le-leb, lt-ltb, le-ltb}
use Rattle.calendar.specs.declared.Cycle.{Cycle}
use Rattle.calendar.specs.declared.Cycle.TheVariants.{Month, Quarter, Year}
use Rattle.calendar.specs.Date.{year_of, month_of, is_date}
use Rattle.calendar.specs.DayNumber.{day_number}
use Rattle.calendar.specs.Cycle.{month_start, quarter_month, quarter_start, year_start, cycle_start, run_of}
use Rattle.refusal.proofs.Tests.{cases, either}
use Rattle.calendar.proofs.Days.{number-keeps}

-- a later date's month does not start before
pub month-rises : (a b : ℕ) → a ≤ b → month_start a ≤ month_start b
unfolding month_start
month-rises a b h = omega arith

-- a choice by m ≤ k and by n ≤ k, where m is no larger
chosen : (k x : ℕ) (m n y z : ℕ) → m ≤ n → x ≤ z → y ≤ z → cond (leb m k) x y ≤ cond (leb n k) x z
chosen k x m n y z h p q =
    cases (leb n k)
    (λ e. rw (e, le-leb m k (omega (arith, leb-true n k e))) (omega arith))
    (λ e. rw e (either (λ i. i ≤ z) (leb m k) (λ _. p) (λ _. q)))

-- a later month's quarter does not start before
quarter-month-rises : (m n : ℕ) → m ≤ n → quarter_month m ≤ quarter_month n
quarter-month-rises m n h =
    chosen 3 1 m n _ _ h
    (either (λ i. 1 ≤ i) (leb n 6) (λ _. omega arith) (λ _. either (λ i. 1 ≤ i) (leb n 9) (λ _. omega arith) (λ _. omega arith)))
    (chosen 6 4 m n _ _ h (either (λ i. 4 ≤ i) (leb n 9) (λ _. omega arith) (λ _. omega arith))
    (chosen 9 7 m n 10 10 h (omega arith) (omega arith)))

-- a quarter starts in October at the latest
pub quarter-month-bound : (m : ℕ) → quarter_month m ≤ 10
quarter-month-bound m =
    either (λ i. i ≤ 10) (leb m 3) (λ _. omega arith)
    (λ _. either (λ i. i ≤ 10) (leb m 6) (λ _. omega arith) (λ _. either (λ i. i ≤ 10) (leb m 9) (λ _. omega arith) (λ _. omega arith)))

-- a later date's quarter does not start before
pub quarter-rises : (a b : ℕ) → a ≤ b → quarter_start a ≤ quarter_start b
unfolding quarter_start
quarter-rises a b h =
    cases (ltb (year_of a) (year_of b))
    (λ t. omega (arith, ltb-true (year_of a) (year_of b) t, quarter-month-bound (month_of a)))
    (λ t.
    let e : year_of a ≡ year_of b = omega (arith, ltb-false (year_of a) (year_of b) t) in
    rw e (omega (arith, quarter-month-rises (month_of a) (month_of b) (omega arith))))

-- a later date's year does not start before
pub year-rises : (a b : ℕ) → a ≤ b → year_start a ≤ year_start b
unfolding year_start
year-rises a b h = omega arith

-- a later date's cycle does not start before
pub start-rises : (c : Cycle) (a b : ℕ) → a ≤ b → cycle_start c a ≤ cycle_start c b
unfolding cycle_start
start-rises Month a b h = month-rises a b h
start-rises Quarter a b h = quarter-rises a b h
start-rises Year a b h = year-rises a b h
start-rises _ a b h = omega arith

-- the dates before the first cycle day are one cycle
pub run-before : (first n d : ℕ) → d < first → run_of first n d ≡ 0
unfolding run_of
run-before first n d h = rw (lt-ltb d first h)

-- from the first cycle day on runs are counted from 1
pub run-from : (first n d : ℕ) → first ≤ d → run_of first n d ≡ (day_number d - day_number first) / n + 1
unfolding run_of
run-from first n d h = rw (le-ltb d first h, add-one)

-- a share of more is no less, also among none
div-rises : (x y n : ℕ) → x ≤ y → x / n ≤ y / n
div-rises x y zero h = rw (div-zero x, div-zero y) (omega arith)
div-rises x y (suc n) h = (le-div_iff_mul-le {k = suc n} (omega arith)).1 (le_trans (div-mul-le_self x (suc n)) h)

-- a later date's run is not an earlier one, whatever the first day and the days of a run are
pub run-rises : (first n a b : ℕ) → is_date a ≡ true → a ≤ b → run_of first n a ≤ run_of first n b
run-rises first n a b ha h =
    cases (ltb a first)
    (λ e. rw (run-before first n a (ltb-true a first e)) (omega arith))
    (λ e.
    let from = ltb-false a first e in
    let days = number-keeps a b ha h in
    let runs = div-rises (day_number a - day_number first) (day_number b - day_number first) n (omega arith) in
    rw (run-from first n a from, run-from first n b (omega arith)) (omega arith))
