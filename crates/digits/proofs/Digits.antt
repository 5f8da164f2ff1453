-- Two decimal digits as a byte, and back. Assumes nothing.
use mathlib.Core.Path.{◌≡◌}
use mathlib.Core.Bool.{true}
use Prim.Native.Nat.{ℕ, ◌/◌, ◌%◌, ◌<◌}
use native.Mathlib.Omega.{arith}
use lib.Dec.{ltb}
use borrow.Author.Tests.{lt-ltb, ltb-true}
use Rattle.refusal.proofs.Tests.{and_left, and_right}
use Rattle.digits.specs.Digits.{pair_of, byte_of, two_digits}

-- a number that was written
module _ (x : ℕ) (h : x < 100) where
  pub byte_pair : pair_of (byte_of x) ≡ x
  byte_pair = omega arith

  pub byte-digits : two_digits (byte_of x) ≡ true
  unfolding two_digits
  byte-digits = rw (lt-ltb (byte_of x / 16) 10 (omega arith), lt-ltb (byte_of x % 16) 10 (omega arith))

-- a byte that is read
pub pair-byte : (b : ℕ) → two_digits b ≡ true → (byte_of (pair_of b) ≡ b) × (pair_of b < 100)
unfolding two_digits
pair-byte b h =
    let high = ltb-true (b / 16) 10 (and_left _ (ltb (b % 16) 10) h) in
    let low = ltb-true (b % 16) 10 (and_right (ltb (b / 16) 10) _ h) in
    (omega arith, omega arith)
