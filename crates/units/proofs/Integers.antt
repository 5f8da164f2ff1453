-- Linear arithmetic of integers by `omega`, which reads an integer z as `up z` less `dn z`, two natural numbers: std's laws, and a
-- sum, a difference and a test in the form that the layers cite. Hand `omega` the law of each sum that a statement names, `plus a b`
-- or `minus a b`, and close the statement with `same`, `true-le`, .. . Assumes nothing.
use mathlib.Core.Path.{◌≡◌, sym}
use mathlib.Core.Bool.{true}
use Prim.Native.Nat.{ℕ, ◌+◌, ◌≤◌, ◌<◌}
use native.Mathlib.Omega.{arith}
use borrow.Author.Differences.{up, down, sum_is_lem, neg_is, true_is_le}
use lib.IntN.{ℤ, pos, negsuc, neg_ℤ, ◌+ℤ◌, ◌-ℤ◌}
use lib.Signed.{mag, le_z}
pub use borrow.Author.Differences.{up, down as dn, neg_is as neg, same_in as same, le-true, lt-true, lt-false}

pub plus : (a b : ℤ) → up (a +ℤ b) + (down a + down b) ≡ (up a + up b) + down (a +ℤ b)
plus a b = omega (arith, sum_is_lem a b)

pub minus : (a b : ℤ) → up (a -ℤ b) + (down a + up b) ≡ (up a + down b) + down (a -ℤ b)
minus a b = omega (arith, sum_is_lem a (neg_ℤ b), neg_is b)

-- the test
pub true-le : (a b : ℤ) → up a + down b ≤ up b + down a → le_z a b ≡ true
true-le a b h = sym (true_is_le a b h)

-- k less l is small where k and l are
pub small : (z : ℤ) {k l m : ℕ} → up z + l ≡ k + down z → k < m → l ≤ m → mag z < m
small (pos n) e p q = omega arith
small (negsuc n) e p q = omega arith
