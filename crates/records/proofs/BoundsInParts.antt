-- Good open periods, records and held records by their parts, both ways: each test is an order of numbers or the test of a
-- part. Assumes nothing.
use mathlib.Core.Path.{◌≡◌}
use mathlib.Core.Bool.{true, ◌&&◌}
use Prim.Native.Nat.{ℕ, ◌≤◌}
use borrow.Author.Tests.{le-leb, leb-true}
use lib.Dec.{leb}
use lib.ListN.{length}
use Rattle.units.specs.Volume.{most_of}
use Rattle.units.specs.Money.{in_bounds}
use Rattle.refusal.proofs.Tests.{split}
use Rattle.records.specs.declared.Record.{Record}
use Rattle.records.specs.declared.OpenPeriod.{OpenPeriod}
use Rattle.records.specs.declared.Periods.{Periods}
use Rattle.records.specs.Records.{day_limit, month_limit, Held}
use Rattle.records.specs.Bounds.{record_good, records_good, period_good, periods_good, held_good}

-- a volume and a charge within the bounds
pub record Within (total volume charge : ℕ) : Type 0 where
  pub volumes : volume ≤ total
  pub charges : charge ≤ most_of total

-- the held records within the bounds
pub record AllGood (top total : ℕ) (h : Held) : Type 0 where
  pub day_few : length h.days ≤ day_limit
  pub month_few : length h.months ≤ month_limit
  pub days : records_good top total h.days ≡ true
  pub months : records_good top total h.months ≡ true

module _ (total : ℕ) where
  -- a good open period is within the bounds, and the other way round
  pub period-is : (t : OpenPeriod) → period_good total t ≡ true → Within total t.volume.0 t.charge.0
  unfolding period_good
  period-is t h =
      let b = split {a = leb t.volume.0 total} {b = leb t.charge.0 (most_of total)} h in
      record { volumes = leb-true _ _ b.0; charges = leb-true _ _ b.1 }

  pub is-period : (t : OpenPeriod) → Within total t.volume.0 t.charge.0 → period_good total t ≡ true
  unfolding period_good
  is-period t w = rw (le-leb _ _ w.volumes, le-leb _ _ w.charges)

  pub periods-are : (p : Periods) → periods_good total p ≡ true → (period_good total p.day ≡ true) × (period_good total p.month ≡ true)
  unfolding periods_good
  periods-are p h = split {a = period_good total p.day} {b = period_good total p.month} h

  pub are-periods : (p : Periods) → period_good total p.day ≡ true → period_good total p.month ≡ true → periods_good total p ≡ true
  unfolding periods_good
  are-periods p h k = rw h k

module _ (top total : ℕ) where
  -- a good record likewise, with its closing balance
  pub record_is : (r : Record)
      → record_good top total r ≡ true
      → Within total r.volume.0 r.charge.0 × (in_bounds top r.closing.0 total ≡ true)
  unfolding record_good
  record_is r h =
      let a = split {a = leb r.volume.0 total} {b = leb r.charge.0 (most_of total) && in_bounds top r.closing.0 total} h in
      let b = split {a = leb r.charge.0 (most_of total)} {b = in_bounds top r.closing.0 total} a.1 in
      (record { volumes = leb-true _ _ a.0; charges = leb-true _ _ b.0 }, b.1)

  pub is-record : (r : Record)
      → Within total r.volume.0 r.charge.0
      → in_bounds top r.closing.0 total ≡ true
      → record_good top total r ≡ true
  unfolding record_good
  is-record r w b = rw (le-leb _ _ w.volumes, le-leb _ _ w.charges) b

  pub held-are : (h : Held) → held_good top total h ≡ true → AllGood top total h
  unfolding held_good
  held-are h g =
      let ds = records_good top total h.days in
      let ms = records_good top total h.months in
      let a = split {a = leb (length h.days) day_limit} {b = leb (length h.months) month_limit && (ds && ms)} g in
      let b = split {a = leb (length h.months) month_limit} {b = ds && ms} a.1 in
      let c = split {a = ds} {b = ms} b.1 in
      record { day_few = leb-true _ _ a.0; month_few = leb-true _ _ b.0; days = c.0; months = c.1 }

  pub are-held : (h : Held) → AllGood top total h → held_good top total h ≡ true
  unfolding held_good
  are-held h g = rw (le-leb _ _ g.day_few, le-leb _ _ g.month_few, g.days) g.months
