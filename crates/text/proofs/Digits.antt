-- Numbers in a base, the last digit behind the digits of the quotient. Assumes nothing.
use mathlib.Core.Path.{◌≡◌}
use mathlib.Core.List.{[], ◌∷◌, ◌++◌}
use Prim.Native.Nat.{ℕ, zero, suc, ◌-◌, ◌/◌, ◌%◌, ◌≤◌, ◌<◌}
use native.Mathlib.Omega.{arith}
use borrow.Author.Tests.{lt-ltb, le-ltb}
use Rattle.text.specs.Decimal.{glyph, digits_of}

pub one_digit : (b k x : ℕ) → 1 ≤ k → x < b → digits_of b k x ≡ glyph x ∷ []
unfolding digits_of
one_digit b zero x l h = absurd (omega arith)
one_digit b (suc k) x l h = rw (lt-ltb x b h)

pub more_digits : (b k x : ℕ) → 1 ≤ k → b ≤ x → digits_of b k x ≡ digits_of b (k - 1) (x / b) ++ (glyph (x % b) ∷ [])
unfolding digits_of
more_digits b zero x l h = absurd (omega arith)
more_digits b (suc k) x l h = let e : suc k - 1 ≡ k = omega arith in rw (le-ltb x b h, e)
