-- The numbers of a plan's line: at most six before the pairs, and the pairs one behind another. Assumes nothing.
use mathlib.Core.Path.{◌≡◌, refl}
use mathlib.Core.List.{[], ◌∷◌, ◌++◌}
use Prim.Native.Nat.{ℕ, zero, suc, ◌+◌, ◌*◌, ◌≤◌}
use lib.ListN.{length}
use native.Mathlib.Omega.{arith}
use Rattle.plan.specs.declared.Plan.{Plan}
use Rattle.plan.specs.Plan.{width_at, price_at, has_extra}
use Rattle.refusal.proofs.Tests.{cases}
use Rattle.plan_line.specs.Line.{pairs_from, head_of}

pub no_pairs : (p : Plan) → pairs_from p 0 0 ≡ []
unfolding pairs_from
no_pairs p = refl

behind : (p : Plan) (n i : ℕ) → pairs_from p (suc n) i ≡ pairs_from p n i ++ (width_at p (i + n) ∷ price_at p (i + n) ∷ [])
unfolding pairs_from
behind p zero i = let e : i + 0 ≡ i = omega arith in rw e
behind p (suc n) i = let e : i + 1 + n ≡ i + suc n = omega arith in rw (behind p n (i + 1), e)

pub next-pair : (p : Plan) (n : ℕ) → pairs_from p (n + 1) 0 ≡ pairs_from p n 0 ++ (width_at p n ∷ price_at p n ∷ [])
next-pair p n = let e : n + 1 ≡ suc n = omega arith in let z : 0 + n ≡ n = omega arith in rw e (rw z at (behind p n 0))

pub length-pairs : (p : Plan) (n i : ℕ) → length (pairs_from p n i) ≡ 2 * n
unfolding pairs_from
length-pairs p zero i = refl
length-pairs p (suc n) i = let e = length-pairs p n (i + 1) in omega arith

pub length-head : (p : Plan) → (4 ≤ length (head_of p)) × (length (head_of p) ≤ 6)
unfolding head_of
length-head p = cases (has_extra p) (λ e. rw e (omega arith, omega arith)) (λ e. rw e (omega arith, omega arith))
