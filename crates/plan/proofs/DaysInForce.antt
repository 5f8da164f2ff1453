-- The days in force are one run of days, and when two plans are both in force. Assumes nothing.
use mathlib.Core.Path.{◌≡◌, refl, sym, ◌∙◌}
use mathlib.Core.Bool.{true, false, ◌&&◌}
use Prim.Native.Nat.{ℕ, ◌≤◌, ◌<◌, min, max}
use native.Mathlib.Omega.{arith}
use lib.Dec.{ltb, leb}
use borrow.Author.Tests.{ltb-true, ltb-false, leb-true, lt-ltb, le-ltb, le-leb}
use Rattle.calendar.specs.declared.Cycle.{Cycle}
use Rattle.calendar.specs.declared.Cycle.TheVariants.{Window, Runs}
use Rattle.calendar.specs.Date.{is_date}
use Rattle.refusal.proofs.Tests.{cases, split, never}
use Rattle.plan.specs.declared.Plan.{Plan}
use Rattle.plan.specs.Plan.{cycle}
use Rattle.plan.specs.Rules.{extra_days, some_day, is_good}
use Rattle.plan.specs.InForce.{in_period, in_window, in_force, first_by, first_day, end_by, end_day, both_in_force}
use Rattle.plan.specs.BothInForce.{BothInForce}
use Rattle.plan.proofs.GoodPlan.{start-date, window-dates, period-order, window-order}

-- a date in a period is not before its first and before its last
within : (from to d : ℕ) → in_period from to d ≡ true → (from ≤ d) × (d < to)
within from to d h = let t = split {a = leb from d} {b = ltb d to} h in (leb-true from d t.0, ltb-true d to t.1)

inside : (from to d : ℕ) → from ≤ d → d < to → in_period from to d ≡ true
inside from to d h k = rw (le-leb from d h, lt-ltb d to k)

by-within : (c : Cycle) (p : Plan) (d : ℕ) → in_period p.start p.end d ≡ true → in_window c p d ≡ true → (first_by c p ≤ d) × (d < end_by c p)
by-within Window p d h k =
    let a = within p.start p.end d h in
    let b = within p.extra_1 p.extra_2 d k in
    (omega arith, omega arith)
by-within _ p d h k = within p.start p.end d h

within-by : (c : Cycle) (p : Plan) (d : ℕ) → first_by c p ≤ d → d < end_by c p → (in_period p.start p.end d && in_window c p d) ≡ true
within-by Window p d h k = rw (inside p.start p.end d (omega arith) (omega arith)) (inside p.extra_1 p.extra_2 d (omega arith) (omega arith))
within-by _ p d h k = rw (inside p.start p.end d h k)

module _ (p : Plan) (d : ℕ) where
  -- a date in force lies in the run of days from the first date in force to the first one after it that is not
  pub in-force-within : in_force p d ≡ true → (first_day p ≤ d) × (d < end_day p)
  unfolding in_force first_day end_day
  in-force-within h = let t = split {a = in_period p.start p.end d} h in by-within (cycle p) p d t.0 t.1

  -- every date of that run is in force
  pub within-in-force : first_day p ≤ d → d < end_day p → in_force p d ≡ true
  unfolding in_force first_day end_day
  within-in-force h k = within-by (cycle p) p d h k

-- so they are the dates of that run
pub on-days : (p : Plan) (d : ℕ) → in_force p d ≡ in_period (first_day p) (end_day p) d
on-days p d = cases (in_force p d)
    (λ e. let k = in-force-within p d e in e ∙ sym (inside (first_day p) (end_day p) d k.0 k.1))
    (λ e. cases (in_period (first_day p) (end_day p) d)
    (λ f. let k = within (first_day p) (end_day p) d f in absurd (never (within-in-force p d k.0 k.1) e))
    (λ f. e ∙ sym f))

-- between two dates in force every date is
pub convex : (p : Plan) (a b c : ℕ) → a ≤ b → b ≤ c → in_force p a ≡ true → in_force p c ≡ true → in_force p b ≡ true
convex p a b c h k l m =
    let s = in-force-within p a l in
    let t = in-force-within p c m in
    within-in-force p b (omega arith) (omega arith)

-- two plans never both in force from a date on are never in force on one date
pub never-both-from : (p q : Plan) (d e : ℕ) → both_in_force p q d ≡ false → d ≤ e → in_force p e ≡ true → in_force q e ≡ true → ⊥
unfolding both_in_force
never-both-from p q d e h k l m =
    let s = in-force-within p e l in
    let t = in-force-within q e m in
    omega (arith, ltb-false (max d (max (first_day p) (first_day q))) (min (end_day p) (end_day q)) h)

-- nor from a later date on
pub not-both-later : (p q : Plan) (d e : ℕ) → d ≤ e → both_in_force p q d ≡ false → both_in_force p q e ≡ false
unfolding both_in_force
not-both-later p q d e h k =
    let n = ltb-false (max d (max (first_day p) (first_day q))) (min (end_day p) (end_day q)) k in
    le-ltb (max e (max (first_day p) (first_day q))) (min (end_day p) (end_day q)) (omega arith)

-- which of the two is named first does not count
pub both-in-force-sym : (p q : Plan) (d : ℕ) → both_in_force p q d ≡ both_in_force q p d
unfolding both_in_force
both-in-force-sym p q d =
    let from : max (first_day p) (first_day q) ≡ max (first_day q) (first_day p) = omega arith in
    let to : min (end_day p) (end_day q) ≡ min (end_day q) (end_day p) = omega arith in
    rw (from, to)

-- the later of two dates is a date
later-date : (a b : ℕ) → is_date a ≡ true → is_date b ≡ true → is_date (max a b) ≡ true
later-date a b h k =
    cases (ltb a b)
    (λ e. let m : max a b ≡ b = omega (arith, ltb-true a b e) in rw m k)
    (λ e. let m : max a b ≡ a = omega (arith, ltb-false a b e) in rw m h)

-- the first date in force is a date, which comes before the end
first-by : (c : Cycle) (p : Plan) → is_good p ≡ true → cycle p ≡ c → (is_date (first_by c p) ≡ true) × (first_by c p < end_by c p)
first-by Window p h e =
    let w = window-order p h e in
    (later-date p.start p.extra_1 (start-date p h) (window-dates p h e).0, omega (arith, period-order p h))
first-by _ p h e = (start-date p h, period-order p h)

pub first-day-date : (p : Plan) → is_good p ≡ true → is_date (first_day p) ≡ true
unfolding first_day
first-day-date p h = (first-by (cycle p) p h refl).0

first-before-end : (p : Plan) → is_good p ≡ true → first_day p < end_day p
unfolding first_day end_day
first-before-end p h = (first-by (cycle p) p h refl).1

-- a good plan is in force on it
pub first-in-force : (p : Plan) → is_good p ≡ true → in_force p (first_day p) ≡ true
first-in-force p h = within-in-force p (first_day p) (omega arith) (first-before-end p h)

-- a plan that is in force on a date, and has a day in its cycles, passes the test for it
by-days : (c : Cycle) (p : Plan) (d : ℕ) → p.start ≤ d → d < p.end → in_window c p d ≡ true → (c ≡ Runs → 1 ≤ p.extra_2) → extra_days c p ≡ true
by-days Window p d s e w n =
    let b = within p.extra_1 p.extra_2 d w in
    rw (lt-ltb p.extra_1 p.extra_2 (omega arith), lt-ltb p.start p.extra_2 (omega arith), lt-ltb p.extra_1 p.end (omega arith))
by-days Runs p d s e w n = le-leb 1 p.extra_2 (n refl)
by-days _ p d s e w n = refl

pub in-force-some-day : (p : Plan) (d : ℕ) → in_force p d ≡ true → (cycle p ≡ Runs → 1 ≤ p.extra_2) → some_day p ≡ true
unfolding some_day in_force
in-force-some-day p d h n =
    let t = split {a = in_period p.start p.end d} h in
    let a = within p.start p.end d t.0 in
    rw (lt-ltb p.start p.end (omega arith)) (by-days (cycle p) p d a.0 a.1 t.1 n)

-- plans that pass the test of both have such a date: the latest of the date and the first days
pub both-in-force-says : (p q : Plan) (d : ℕ) → is_good p ≡ true → is_good q ≡ true → is_date d ≡ true → both_in_force p q d ≡ true → BothInForce p q d
unfolding both_in_force
both-in-force-says p q d hp hq hd h =
    let e : ℕ = max d (max (first_day p) (first_day q)) in
    let k = ltb-true (max d (max (first_day p) (first_day q))) (min (end_day p) (end_day q)) h in
    record {
      date = e;
      real = later-date d (max (first_day p) (first_day q)) hd (later-date (first_day p) (first_day q) (first-day-date p hp) (first-day-date q hq));
      later = omega arith;
      one = within-in-force p e (omega arith) (omega arith);
      two = within-in-force q e (omega arith) (omega arith);
    }

-- plans that have such a date pass the test
pub says-both-in-force : (p q : Plan) (d : ℕ) → BothInForce p q d → both_in_force p q d ≡ true
unfolding both_in_force
says-both-in-force p q d m =
    let s = in-force-within p m.date m.one in
    let t = in-force-within q m.date m.two in
    lt-ltb (max d (max (first_day p) (first_day q))) (min (end_day p) (end_day q)) (omega arith)
