-- The bounds of the open periods and of the held records are kept: by a greater total, by pulses that are counted, and by the turn of a
-- day. Assumes nothing.
use mathlib.Core.Path.{◌≡◌, refl}
use mathlib.Core.Bool.{true}
use mathlib.Core.List.{List, [], ◌∷◌}
use Prim.Native.Nat.{ℕ, zero, suc, ◌+◌, ◌≤◌}
use native.Mathlib.Omega.{arith}
use borrow.Author.Tests.{eqb-true}
use lib.Dec.{eqb}
use lib.ListN.{take, length, length-take}
use Rattle.units.specs.declared.Millionths.{Millionths}
use Rattle.units.specs.Volume.{most_of}
use Rattle.units.specs.Money.{in_bounds}
use Rattle.units.proofs.Balance.{total-in}
use Rattle.refusal.proofs.Tests.{either, split}
use Rattle.records.specs.declared.Record.{Record}
use Rattle.records.specs.declared.OpenPeriod.{OpenPeriod}
use Rattle.records.specs.declared.Periods.{Periods}
use Rattle.records.specs.Records.{record_of, nothing, day_limit, month_limit, Held, in_front}
use Rattle.records.specs.Turn.{opened, closed, period_counted, counted, later_month, day_record, month_record}
use Rattle.records.specs.Bounds.{record_good, records_good, period_good, periods_good, held_good, is_fresh_period, is_fresh_periods, is_fresh_held}
use Rattle.records.proofs.BoundsInParts.{Within, period-is, is-period, periods-are, are-periods, record_is, is-record, held-are, are-held}

-- a greater total
module _ (top total n : ℕ) where
  records-grown : (l : List Record) → records_good top total l ≡ true → records_good top (total + n) l ≡ true
  unfolding records_good
  records-grown [] h = refl
  records-grown (r ∷ l) h =
      let b = split {a = record_good top total r} {b = records_good top total l} h in
      let p = record_is top total r b.0 in
      let w : Within (total + n) r.volume.0 r.charge.0 = record { volumes = omega arith; charges = omega arith } in
      rw (is-record top (total + n) r w (total-in top r.closing.0 total n p.1)) (records-grown l b.1)

  pub held_grown : (h : Held) → held_good top total h ≡ true → held_good top (total + n) h ≡ true
  held_grown h g =
      let p = held-are top total h g in
      are-held top (total + n) h
      record { day_few = p.day_few; month_few = p.month_few; days = records-grown h.days p.days; months = records-grown h.months p.months }

  -- pulses that are counted keep the bounds of the total that they bring
  pub counted-good : (c : ℕ) (p : Periods) → c ≤ most_of n → periods_good total p ≡ true → periods_good (total + n) (counted p n c) ≡ true
  unfolding counted
  counted-good c p k h =
      let g = periods-are total p h in
      are-periods (total + n) (counted p n c) (more p.day g.0) (more p.month g.1)
    where
      more : (t : OpenPeriod) → period_good total t ≡ true → period_good (total + n) (period_counted t n c) ≡ true
      more t g =
          let w = period-is total t g in
          is-period (total + n) (period_counted t n c) (record { volumes = omega arith; charges = omega arith })

-- the turn of a day
module _ (top total : ℕ) where
  nothing-good : period_good total nothing ≡ true
  nothing-good = is-period total nothing (record { volumes = omega arith; charges = omega arith })

  pub opened-good : (p : Periods) (from to : ℕ) → periods_good total p ≡ true → periods_good total (opened p from to) ≡ true
  unfolding opened
  opened-good p from to h =
      are-periods total (opened p from to) nothing-good
      (either (λ t. period_good total t ≡ true) (later_month from to) (λ _. nothing-good) (λ _. (periods-are total p h).1))

  -- some of good records
  good-take : (n : ℕ) (l : List Record) → records_good top total l ≡ true → records_good top total (take n l) ≡ true
  unfolding records_good
  good-take zero l p = refl
  good-take (suc n) [] p = refl
  good-take (suc n) (r ∷ l) p =
      let b = split {a = record_good top total r} {b = records_good top total l} p in
      rw b.0 (good-take n l b.1)

  front-good : (limit : ℕ) (r : Record) (l : List Record) → record_good top total r ≡ true → records_good top total l ≡ true → records_good top total (in_front limit r l) ≡ true
  unfolding records_good
  front-good limit r l q p = good-take limit (r ∷ l) (rw q p)

  front-few : (limit : ℕ) (r : Record) (l : List Record) → length (in_front limit r l) ≤ limit
  front-few limit r l = simp length-take (omega arith)

  ended-good : (date : ℕ) (t : OpenPeriod) (closing : Millionths) → period_good total t ≡ true → in_bounds top closing.0 total ≡ true → record_good top total (record_of date t closing) ≡ true
  ended-good date t closing g b = is-record top total (record_of date t closing) (period-is total t g) b

  pub closed-good : (h : Held) (p : Periods) (from to : ℕ) (closing : Millionths)
      → held_good top total h ≡ true
      → periods_good total p ≡ true
      → in_bounds top closing.0 total ≡ true
      → held_good top total (closed h p from to closing) ≡ true
  unfolding closed
  closed-good h p from to closing g q b =
      let a = held-are top total h g in
      let t = periods-are total p q in
      let day = day_record p from closing in
      let month = month_record p from closing in
      are-held top total (closed h p from to closing)
      record {
        day_few = front-few day_limit day h.days;
        month_few = either (λ (l : List Record). length l ≤ month_limit) (later_month from to) (λ _. front-few month_limit month h.months) (λ _. a.month_few);
        days = front-good day_limit day h.days (ended-good from p.day closing t.0 b) a.days;
        months =
            either (λ (l : List Record). records_good top total l ≡ true) (later_month from to)
            (λ _. front-good month_limit month h.months (ended-good _ p.month closing t.1 b) a.months)
            (λ _. a.months);
      }

-- fresh values are within the bounds
module _ (top total : ℕ) where
  fresh-period : (t : OpenPeriod) → is_fresh_period t ≡ true → period_good total t ≡ true
  fresh-period t h =
      let b = split {a = eqb t.volume.0 0} {b = eqb t.charge.0 0} h in
      let v : t.volume.0 ≡ 0 = eqb-true _ _ b.0 in
      let c : t.charge.0 ≡ 0 = eqb-true _ _ b.1 in
      is-period total t (record { volumes = omega arith; charges = omega arith })

  pub fresh-periods : (p : Periods) → is_fresh_periods p ≡ true → periods_good total p ≡ true
  unfolding is_fresh_periods
  fresh-periods p h =
      let b = split {a = is_fresh_period p.day} {b = is_fresh_period p.month} h in
      are-periods total p (fresh-period p.day b.0) (fresh-period p.month b.1)

  none-good : (l : List Record) → length l ≡ 0 → records_good top total l ≡ true
  unfolding records_good
  none-good [] h = refl
  none-good (r ∷ l) h = absurd (omega arith)

  pub fresh-held : (h : Held) → is_fresh_held h ≡ true → held_good top total h ≡ true
  unfolding is_fresh_held
  fresh-held h g =
      let b = split {a = eqb (length h.days) 0} {b = eqb (length h.months) 0} g in
      let d : length h.days ≡ 0 = eqb-true _ _ b.0 in
      let m : length h.months ≡ 0 = eqb-true _ _ b.1 in
      are-held top total h (record { day_few = omega arith; month_few = omega arith; days = none-good h.days d; months = none-good h.months m })
