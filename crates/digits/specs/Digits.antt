-- Document 01, "Plan record (Table C.1)": "two decimal digits a byte, high digit first".
use Rattle.std.specs.Prelude.{Bool, ◌&&◌, ℕ, ◌+◌, ◌*◌, ◌/◌, ◌%◌, ltb}

-- the number of a byte's two digits, and the byte of a number below 100
abbrev pub pair_of : ℕ → ℕ
pair_of b = b / 16 * 10 + b % 16

abbrev pub byte_of : ℕ → ℕ
byte_of x = x / 10 * 16 + x % 10

-- neither digit is above 9
unfoldable pub two_digits : ℕ → Bool
two_digits b = ltb (b / 16) 10 && ltb (b % 16) 10
