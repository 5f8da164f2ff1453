-- Document 01, "Plan record (Table C.1)": fields of four bytes, "two decimal digits a byte, high digit first".
use Rattle.std.specs.Prelude.{cond, ◌&&◌, List, [], ◌∷◌, ℕ, ◌+◌, ◌*◌, ◌/◌, ◌%◌, get_or}
use Rattle.digits.specs.Digits.{pair_of, byte_of}
unfoldable pub use Rattle.digits.specs.Digits.{two_digits}

-- the number of four bytes
abbrev pub number_of : ℕ → ℕ → ℕ → ℕ → ℕ
number_of a b c d = ((pair_of a * 100 + pair_of b) * 100 + pair_of c) * 100 + pair_of d

-- a field of four bytes: its number, or 100,000,000, above every number of eight digits, where a digit is above 9
unfoldable pub quad_of : ℕ → ℕ → ℕ → ℕ → ℕ
quad_of a b c d = cond (two_digits a && (two_digits b && (two_digits c && two_digits d))) (number_of a b c d) 100000000

-- the field that begins at byte i
abbrev pub quad_at : List ℕ → ℕ → ℕ
quad_at s i = quad_of (get_or s i 0) (get_or s (i + 1) 0) (get_or s (i + 2) 0) (get_or s (i + 3) 0)

-- the four bytes of a number of eight digits
abbrev pub four_bytes : ℕ → List ℕ
four_bytes x = byte_of (x / 1000000 % 100) ∷ byte_of (x / 10000 % 100) ∷ byte_of (x / 100 % 100) ∷ byte_of (x % 100) ∷ []
