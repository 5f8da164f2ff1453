-- Document 01, "Bounds of a meter": "every other volume held outside the plans at most the total, every charge from 0 to total times
-- 99,999,999 .., at most 62 and 120 records". A closing balance is bounded like the balance.
use Rattle.std.specs.Prelude.{Bool, true, ◌&&◌, List, [], ◌∷◌, ℕ, leb, eqb, length}
use Rattle.units.specs.Volume.{charge_in_bounds}
use Rattle.units.specs.Money.{in_bounds}
use Rattle.records.specs.declared.Record.{Record}
use Rattle.records.specs.declared.OpenPeriod.{OpenPeriod}
use Rattle.records.specs.declared.Periods.{Periods}
use Rattle.records.specs.Records.{Held, day_limit, month_limit}

-- a record, with the highest balance as `top`
unfoldable pub record_good : ℕ → ℕ → Record → Bool
record_good top total r = leb r.volume.0 total && (charge_in_bounds r.charge.0 total && in_bounds top r.closing.0 total)

unfoldable pub records_good : ℕ → ℕ → List Record → Bool
records_good top total [] = true
records_good top total (r ∷ rs) = record_good top total r && records_good top total rs

unfoldable pub period_good : ℕ → OpenPeriod → Bool
period_good total t = leb t.volume.0 total && charge_in_bounds t.charge.0 total

unfoldable pub periods_good : ℕ → Periods → Bool
periods_good total p = period_good total p.day && period_good total p.month

unfoldable pub held_good : ℕ → ℕ → Held → Bool
held_good top total h =
    leb (length h.days) day_limit
    && (leb (length h.months) month_limit && (records_good top total h.days && records_good top total h.months))

-- of a fresh meter: nothing in the open day and month, no record held
abbrev pub is_fresh_period : OpenPeriod → Bool
is_fresh_period t = eqb t.volume.0 0 && eqb t.charge.0 0

unfoldable pub is_fresh_periods : Periods → Bool
is_fresh_periods p = is_fresh_period p.day && is_fresh_period p.month

unfoldable pub is_fresh_held : Held → Bool
is_fresh_held h = eqb (length h.days) 0 && eqb (length h.months) 0
