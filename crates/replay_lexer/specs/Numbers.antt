-- Decimal numbers, read from words.
use Rattle.std.specs.Prelude.{Bool, ◌&&◌, not, List, ℕ, ◌+◌, ◌-◌, ◌*◌, min, eqb, length}
use Rattle.std.specs.List.{fold, list_all, range_with_len}
use Rattle.std.specs.Char.{is_ascii_digit}
use Rattle.replay_lexer.specs.Words.{word_at}

-- a decimal number is one digit or more
unfoldable pub is_number : List ℕ → Bool
is_number w = not (eqb (length w) 0) && list_all is_ascii_digit w

-- whether words 1 to n are decimal numbers
unfoldable pub are_numbers : List ℕ → ℕ → Bool
are_numbers s n = list_all (λ k. is_number (word_at s k)) (range_with_len 1 n)

-- the number that digits make, of which each is worth ten times the next
unfoldable pub value_of : List ℕ → ℕ
value_of w = fold (λ v x. v * 10 + (x - 48)) 0 w

-- A number above the greatest that its argument holds, of 64 or of 32 bits, is taken as that greatest.
-- Document 01 refuses both by the same number: date and second 8, slot 10, pulses 13, serial 15, amount 20, command 21,
-- alarms 23, record 25, volume 27.
unfoldable pub wide_at : List ℕ → ℕ → ℕ
wide_at s k = min 18446744073709551615 (value_of (word_at s k))

unfoldable pub narrow_at : List ℕ → ℕ → ℕ
narrow_at s k = min 4294967295 (value_of (word_at s k))
