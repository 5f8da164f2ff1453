-- A test of every number below n, one by one. Assumes nothing.
use mathlib.Core.Path.{◌≡◌, refl}
use mathlib.Core.Bool.{Bool, true, false, ◌&&◌}
use Prim.Native.Nat.{ℕ, zero, suc, ◌+◌, ◌≤◌, ◌<◌}
use native.Mathlib.Omega.{arith}
use lib.Dec.{eqb}
use borrow.Author.Tests.{eqb-true, eqb-false}
use mathlib.Core.List.{List, [], ◌∷◌}
use lib.ListN.{get_or, length, take}
use Rattle.std.proofs.Math.Seq.{take-nil}
use Rattle.std.specs.List.{list_all, range_with_len}
use Rattle.refusal.proofs.Tests.{cases, split}
use Rattle.plan.specs.Rules.{every}

-- of n numbers from a on
from-at : (f : ℕ → Bool) (n a j : ℕ) → list_all f (range_with_len a n) ≡ true → a ≤ j → j < a + n → f j ≡ true
from-at f zero a j h k l = absurd (omega arith)
from-at f (suc n) a j h k l =
    let t = split {a = f a} h in
    cases (eqb j a)
    (λ e. rw (eqb-true j a e) t.0)
    (λ e. let ne : j ≡ a → ⊥ = eqb-false j a e in from-at f n (a + 1) j t.1 (omega arith) (omega arith))

from-same : (f g : ℕ → Bool) (n a : ℕ) → ((j : ℕ) → j < a + n → f j ≡ g j) → list_all f (range_with_len a n) ≡ list_all g (range_with_len a n)
from-same f g zero a h = refl
from-same f g (suc n) a h = rw (h a (omega arith), from-same f g n (a + 1) (λ j k. h j (omega arith)))

-- what holds of every number holds of each
pub every-at : (f : ℕ → Bool) (n j : ℕ) → every f n ≡ true → j < n → f j ≡ true
unfolding every
every-at f n j h k = from-at f n 0 j h (omega arith) (omega arith)

-- two tests that agree below n
pub every-same : (f g : ℕ → Bool) (n : ℕ) → ((j : ℕ) → j < n → f j ≡ g j) → every f n ≡ every g n
unfolding every
every-same f g n h = from-same f g n 0 (λ j k. h j (omega arith))

-- two tests of each
both_at : (f g : ℕ → Bool) (n a : ℕ) → list_all (λ k. f k && g k) (range_with_len a n) ≡ (list_all f (range_with_len a n) && list_all g (range_with_len a n))
both_at f g zero a = refl
both_at f g (suc n) a = rw (both_at f g n (a + 1)) (mixed (f a) (g a) _ _)
  where
    mixed : (x y z w : Bool) → ((x && y) && (z && w)) ≡ ((x && z) && (y && w))
    mixed true true z w = refl
    mixed true false z w = cases z (λ e. rw e) (λ e. rw e)
    mixed false y z w = refl

pub every-both : (f g : ℕ → Bool) (n : ℕ) → every (λ k. f k && g k) n ≡ (every f n && every g n)
unfolding every
every-both f g n = both_at f g n 0

-- the first n of a list, where what is read behind it passes
list_at : {A : Type 0} (g : A → Bool) (d : A) (f : ℕ → Bool) (xs : List A) (n a : ℕ)
    → ((k b : ℕ) → b ≡ a + k → f b ≡ g (get_or xs k d)) → (length xs < n → g d ≡ true) → list_all g (take n xs) ≡ list_all f (range_with_len a n)
list_at g d f xs zero a h e = refl
list_at g d f [] (suc n) a h e =
    let p = e (omega arith) in
    rw (h 0 a (omega arith), p) (rw take-nil at (list_at g d f [] n (a + 1) (λ k b q. h (suc k) b (omega arith)) (λ _. p)))
list_at g d f (x ∷ xs) (suc n) a h e =
    rw (h 0 a (omega arith), list_at g d f xs n (a + 1) (λ k b q. h (suc k) b (omega arith)) (λ q. e (omega arith)))

pub every-list : {A : Type 0} (g : A → Bool) (d : A) (xs : List A) (n : ℕ) → (length xs < n → g d ≡ true) → list_all g (take n xs) ≡ every (λ k. g (get_or xs k d)) n
unfolding every
every-list g d xs n e =
    list_at g d (λ k. g (get_or xs k d)) xs n 0 (λ k b q. let s : b ≡ k = omega arith in rw s) e
