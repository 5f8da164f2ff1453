-- Text that programs print: plain decimal numbers with single spaces.
use Rattle.std.specs.Prelude.{Bool, true, false, cond, List, [], ◌∷◌, ◌++◌, ℕ, zero, suc, ◌+◌, ◌/◌, ◌%◌, ltb, length, drop}

-- a digit below sixteen, capital from ten on
abbrev pub glyph : ℕ → ℕ
glyph d = cond (ltb d 10) (48 + d) (55 + d)

-- a number in a base, of at most k digits: the last digit stands behind those of the quotient
unfoldable pub digits_of : ℕ → ℕ → ℕ → List ℕ
digits_of base zero x = []
digits_of base (suc k) x = cond (ltb x base) (glyph x ∷ []) (digits_of base k (x / base) ++ (glyph (x % base) ∷ []))

-- twenty digits hold every number of 64 bits
unfoldable pub decimal : ℕ → List ℕ
decimal x = digits_of 10 20 x

-- a minus sign before a number that is negative
unfoldable pub signed : Bool → ℕ → List ℕ
signed true x = 45 ∷ decimal x
signed false x = decimal x

-- numbers with single spaces between them
unfoldable pub spaced : List ℕ → List ℕ
spaced [] = []
spaced (x ∷ []) = decimal x
spaced (x ∷ (y ∷ rest)) = decimal x ++ (32 ∷ spaced (y ∷ rest))

-- a buffer with a text at its start; what stands behind the text stays
unfoldable pub starting_with : List ℕ → List ℕ → List ℕ
starting_with text out = text ++ drop (length text) out
