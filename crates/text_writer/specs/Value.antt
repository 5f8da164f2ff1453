-- The values in the lines: numbers without and with decimals, with a sign, and in hexadecimal.
use Rattle.std.specs.Prelude.{List, [], ◌∷◌, ◌++◌, ℕ, zero, suc, ◌+◌, ◌/◌, ◌%◌, ◌^◌, ℤ, pos, nat_abs}
use Rattle.std.specs.Int.Signed.{lt_z}
use Rattle.text.specs.Decimal.{decimal, signed}
use Rattle.text.specs.Hex.{hexadecimal}
use Rattle.text_writer.specs.declared.Value.{Value}
use Rattle.text_writer.specs.declared.Value.TheVariants.{Whole, Code, Balance, Display, Volume, Price, Money}

-- the last k digits of a number, with zeros in front where it has fewer
unfoldable pub last_digits : ℕ → ℕ → List ℕ
last_digits zero x = []
last_digits (suc k) x = last_digits k (x / 10) ++ ((48 + x % 10) ∷ [])

-- a number of units of which 10 ^ k make one whole: the wholes, a point and the k digits that are left
unfoldable pub fixed : ℕ → ℕ → List ℕ
fixed k x = decimal (x / 10 ^ k) ++ (46 ∷ last_digits k x)

-- an integer: its size, with a minus sign where it is below 0
abbrev pub integer : ℤ → List ℕ
integer z = signed (lt_z z (pos 0)) (nat_abs z)

-- a balance and a display as the number of their units; a volume, a price and a charge in whole cubic metres and yuan
abbrev pub value_text : Value → List ℕ
value_text (Whole x) = decimal x
value_text (Code x) = hexadecimal x
value_text (Balance b) = integer b.0
value_text (Display s) = integer s.0
value_text (Volume v) = fixed 2 v.0
value_text (Price p) = fixed 4 p.0
value_text (Money c) = fixed 6 c.0
