-- Bytes written as two hexadecimal digits each, capital or small.
use Rattle.std.specs.Prelude.{Bool, cond, ◌&&◌, List, ℕ, ◌+◌, ◌*◌, ◌/◌, ◌%◌, eqb, length, get_or, map}
use Rattle.std.specs.List.{list_all, range_with_len}
use Rattle.std.specs.Char.{is_ascii_hexdigit, digit_value as digit_in_36}

-- pairs of hexadecimal digits
unfoldable pub is_hex : List ℕ → Bool
is_hex w = eqb (length w % 2) 0 && list_all is_ascii_hexdigit w

-- the value of a hexadecimal digit; what is none counts 0
unfoldable pub digit_value : ℕ → ℕ
digit_value x = cond (is_ascii_hexdigit x) (digit_in_36 x) 0

-- pair k of a word, as a byte
unfoldable pub pair_at : List ℕ → ℕ → ℕ
pair_at w k = 16 * digit_value (get_or w (2 * k) 0) + digit_value (get_or w (2 * k + 1) 0)

-- the bytes of a word of pairs
unfoldable pub bytes_of : List ℕ → List ℕ
bytes_of w = map (pair_at w) (range_with_len 0 (length w / 2))
