-- Recharged minus balance in words of 128 bits: two numbers are the same where their words are. Assumes nothing.
use mathlib.Core.Path.{◌≡◌, sym, ap, ◌∙◌}
use Prim.Native.Nat.{ℕ, ◌+◌, ◌<◌, ◌≤◌, ◌^◌}
use native.Mathlib.Omega.{arith}
use lib.Dec.{eqb}
use lib.IntN.{ℤ, pos, negsuc, ◌-ℤ◌}
use mir.Syntax.{w64, w128}
use mir.Val.{to_z, of_z, SFits}
use mir.ValLaws.{to_z-of_z}
use borrow.Author.Tests.{eq-eqb, ne_eqb, eqb-true, eqb-false}
use lib.Signed.{mag}
use Rattle.units.proofs.Integers.{up, dn, minus, small}
use Rattle.replay_replies.specs.Closing.{is_number}
use Rattle.refusal.proofs.Tests.{cases}

back : (a b : ℤ) → SFits w128 a → SFits w128 b → of_z w128 a ≡ of_z w128 b → a ≡ b
back a b f g e = sym (to_z-of_z w128 a f) ∙ ap (λ n. to_z w128 n) e ∙ to_z-of_z w128 b g

pub same_number : (z : ℤ) (s : ℕ) → SFits w128 z → SFits w128 (pos s) → eqb (of_z w128 z) (of_z w128 (pos s)) ≡ is_number z s
same_number (pos m) s f g =
    cases (eqb m s)
    (λ t. eq-eqb _ _ (ap (λ n. of_z w128 (pos n)) (eqb-true m s t)) ∙ sym t)
    (λ t. ne_eqb _ _ (λ e. let p = back (pos m) (pos s) f g e in eqb-false m s t (cc)) ∙ sym t)
same_number (negsuc m) s f g = ne_eqb _ _ (λ e. let p = back (negsuc m) (pos s) f g e in cc)

ends : (z : ℤ) (m : ℕ) → mag z ≤ m → (up z ≤ m) × (dn z ≤ m + 1)
ends (pos n) m h = (omega arith, omega arith)
ends (negsuc n) m h = (omega arith, omega arith)

pub difference : (r : ℕ) (b : ℤ) (s : ℕ) → r < 2 ^ 64 → SFits w64 b → s < 2 ^ 64
    → eqb (of_z w128 (to_z w128 (of_z w128 (pos r)) -ℤ to_z w128 (of_z w128 (to_z w64 (of_z w64 b))))) (of_z w128 (pos s)) ≡ is_number (pos r -ℤ b) s
difference r b s h f g =
    let d = pos r -ℤ b in
    let e = ends b (2 ^ 63) (omega (arith, f.sfits)) in
    let fr : SFits w128 (pos r) = record { sfits = omega arith } in
    let fs : SFits w128 (pos s) = record { sfits = omega arith } in
    let fb : SFits w128 b = record { sfits = omega (arith, f.sfits) } in
    let fd : SFits w128 d = record { sfits = small d (minus (pos r) b) (omega arith) (omega arith) } in
    rw (to_z-of_z w64 b f, to_z-of_z w128 b fb, to_z-of_z w128 (pos r) fr) (same_number d s fd fs)
