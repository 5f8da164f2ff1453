-- Document 01, "Units": "The display shows ten-thousandths (5.16.6): the greatest whole number not above balance / 100."
use Rattle.std.specs.Prelude.{◌/◌, ℤ, pos, negsuc}
use Rattle.units.specs.declared.Millionths.{Millionths}
use Rattle.units.specs.declared.Shown.{Shown}

-- `negsuc n` is -(n + 1), and -(n + 1) / 100 rounded down is -(n / 100 + 1)
abbrev pub floor100 : ℤ → ℤ
floor100 (pos n) = pos (n / 100)
floor100 (negsuc n) = negsuc (n / 100)

abbrev pub shown : Millionths → Shown
shown b = record { 0 = floor100 b.0 }
