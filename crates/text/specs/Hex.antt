-- Numbers in capital hexadecimal, as event codes are written.
use Rattle.std.specs.Prelude.{List, ℕ}
use Rattle.text.specs.Decimal.{digits_of}

-- eight digits hold every number of 32 bits
unfoldable pub hexadecimal : ℕ → List ℕ
hexadecimal x = digits_of 16 8 x
