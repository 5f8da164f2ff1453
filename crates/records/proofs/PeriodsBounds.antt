-- What the bounds of the open periods tell a caller. Assumes nothing.
use mathlib.Core.Path.{◌≡◌}
use mathlib.Core.Bool.{true}
use Prim.Native.Nat.{ℕ, ◌≤◌}
use Rattle.units.specs.Volume.{most_of}
use Rattle.records.specs.declared.Periods.{Periods}
use Rattle.records.specs.Bounds.{periods_good}
use Rattle.records.proofs.BoundsInParts.{period-is, periods-are}

-- no volume above the total, no charge above the most that it can be charged
pub record PeriodsBounds (total : ℕ) (p : Periods) : Type 0 where
  pub day_volume : p.day.volume.0 ≤ total
  pub month_volume : p.month.volume.0 ≤ total
  pub day_charge : p.day.charge.0 ≤ most_of total
  pub month_charge : p.month.charge.0 ≤ most_of total

pub periods-bounds : (total : ℕ) (p : Periods) → periods_good total p ≡ true → PeriodsBounds total p
periods-bounds total p h =
    let g = periods-are total p h in
    let d = period-is total p.day g.0 in
    let m = period-is total p.month g.1 in
    record { day_volume = d.volumes; month_volume = m.volumes; day_charge = d.charges; month_charge = m.charges }
