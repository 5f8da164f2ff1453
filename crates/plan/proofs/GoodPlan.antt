-- What is known of a plan that none of the refusals 2 to 7 refuses. Assumes nothing.
use mathlib.Core.Path.{◌≡◌, refl}
use mathlib.Core.Bool.{true, cond, ◌&&◌}
use Prim.Native.Nat.{ℕ, ◌≤◌, ◌<◌}
use lib.Dec.{ltb, leb}
use borrow.Author.Tests.{leb-true, ltb-true}
use Rattle.std.specs.Prelude.{⊤, Result, Ok, Err, is_ok}
use Rattle.calendar.specs.Date.{is_date}
use Rattle.calendar.specs.declared.Cycle.TheVariants.{Window, Runs}
use Rattle.refusal.specs.declared.Refusal.{Refusal}
use Rattle.refusal.specs.declared.Refusal.TheVariants.{Steps, CycleWord, Digits, Dates, NoDay, NoPrice}
use Rattle.refusal.proofs.Tests.{split, need-both}
use Rattle.plan.specs.declared.Plan.{Plan}
use Rattle.plan.specs.Plan.{most_steps, width_at, price_at, cycle, has_extra}
use Rattle.plan.specs.Rules.{most_number, every, eight_digits, pair_good, has_price, extra_dates, extra_days}
use Rattle.plan.specs.Rules.{steps_good, word_good, numbers_good, dates_good, some_day, priced, plan_refusal, is_good}
use Rattle.plan.proofs.Every.{every-at}

-- an answer that accepts
pub ok-is : (a : Result ⊤ Refusal) → is_ok a ≡ true → a ≡ Ok tt
ok-is (Ok tt) h = refl
ok-is (Err n) h = cc

-- a good plan is accepted
pub refusal-good : (p : Plan) → is_good p ≡ true → plan_refusal p ≡ Ok tt
unfolding is_good
refusal-good p h = ok-is (plan_refusal p) h

-- an accepted plan is good
pub good-refusal : (p : Plan) → plan_refusal p ≡ Ok tt → is_good p ≡ true
unfolding is_good
good-refusal p h = rw h

-- the tests of a good plan, in their order
pub record Tests (p : Plan) : Type 0 where
  pub steps : steps_good p ≡ true
  pub word : word_good p ≡ true
  pub numbers : numbers_good p ≡ true
  pub dates : dates_good p ≡ true
  pub days : some_day p ≡ true
  pub prices : priced p ≡ true

-- a good plan passes each test
pub tests : (p : Plan) → is_good p ≡ true → Tests p
unfolding plan_refusal
tests p h =
    let s = need-both {b = steps_good p} Steps (refusal-good p h) in
    let w = need-both {b = word_good p} CycleWord s.1 in
    let n = need-both {b = numbers_good p} Digits w.1 in
    let d = need-both {b = dates_good p} Dates n.1 in
    let y = need-both {b = some_day p} NoDay d.1 in
    let c = need-both {b = priced p} NoPrice y.1 in
    record { steps = s.0; word = w.0; numbers = n.0; dates = d.0; days = y.0; prices = c.0 }

-- a number of steps that passes is 6 at most
pub steps-most : (p : Plan) → steps_good p ≡ true → p.steps ≤ most_steps
unfolding steps_good
steps-most p h = leb-true p.steps most_steps (split {a = leb 1 p.steps} h).1

module _ (p : Plan) (h : is_good p ≡ true) where
  -- a good plan has one to six steps
  pub steps-range : (1 ≤ p.steps) × (p.steps ≤ most_steps)
  unfolding steps_good
  steps-range = let t = split {a = leb 1 p.steps} (tests p h).steps in (leb-true _ _ t.0, leb-true _ _ t.1)

  -- it starts on a date
  pub start-date : is_date p.start ≡ true
  unfolding dates_good
  start-date = (split {a = is_date p.start} (tests p h).dates).0

  -- what the cycle adds to the test of the dates
  extra-dates : extra_dates (cycle p) p ≡ true
  unfolding dates_good
  extra-dates = (split {a = is_date p.end} (split {a = is_date p.start} (tests p h).dates).1).1

  -- both ends of a window are dates
  pub window-dates : cycle p ≡ Window → (is_date p.extra_1 ≡ true) × (is_date p.extra_2 ≡ true)
  window-dates w = split {a = is_date p.extra_1} (rw w at extra-dates)

  -- the first cycle day is a date
  pub first-date : cycle p ≡ Runs → is_date p.extra_1 ≡ true
  first-date w = rw w at extra-dates

  -- it ends after it starts
  pub period-order : p.start < p.end
  unfolding some_day
  period-order = ltb-true p.start p.end (split {a = ltb p.start p.end} (tests p h).days).0

  -- what the cycle adds to the test of the days
  extra-days : extra_days (cycle p) p ≡ true
  unfolding some_day
  extra-days = (split {a = ltb p.start p.end} (tests p h).days).1

  -- a window begins before it ends, and some of it lies in the period
  pub window-order : cycle p ≡ Window → (p.extra_1 < p.extra_2) × (p.start < p.extra_2) × (p.extra_1 < p.end)
  window-order w =
      let f = split {a = ltb p.extra_1 p.extra_2} (rw w at extra-days) in
      let s = split {a = ltb p.start p.extra_2} f.1 in
      (ltb-true _ _ f.0, ltb-true _ _ s.0, ltb-true _ _ s.1)

  -- a cycle has a day
  pub cycle-days : cycle p ≡ Runs → 1 ≤ p.extra_2
  cycle-days w = leb-true 1 p.extra_2 (rw w at extra-days)

  -- the widths and prices of the steps
  pairs-good : every (pair_good p) p.steps ≡ true
  unfolding numbers_good
  pairs-good =
      let s = split {a = eight_digits p.start} (tests p h).numbers in
      let e = split {a = eight_digits p.end} s.1 in
      (split {a = cond (has_extra p) (eight_digits p.extra_1 && eight_digits p.extra_2) true} e.1).1

  -- a width has eight digits at most
  pub width-bound : (i : ℕ) → i < p.steps → width_at p i ≤ most_number
  width-bound i k = leb-true _ _ (split {a = eight_digits (width_at p i)} (every-at (pair_good p) p.steps i pairs-good k)).0

  -- and so has a price, which is not 0
  pub price-range : (i : ℕ) → i < p.steps → (1 ≤ price_at p i) × (price_at p i ≤ most_number)
  unfolding priced
  price-range i k = (
    leb-true 1 _ (every-at (has_price p) p.steps i (tests p h).prices k),
    leb-true _ _ (split {a = eight_digits (width_at p i)} (every-at (pair_good p) p.steps i pairs-good k)).1,
  )

-- what calls on a good plan ask
pub ruleset good = (steps-most, steps-range, first-date, cycle-days, price-range)
