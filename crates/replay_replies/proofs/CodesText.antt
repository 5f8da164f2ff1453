-- The codes of a call, one behind another. Assumes nothing.
use mathlib.Core.Path.{◌≡◌, refl}
use mathlib.Core.List.{List, [], ◌∷◌, ◌++◌, append_assoc, append-nil}
use Prim.Native.Nat.{ℕ, ◌+◌, ◌≤◌, ◌<◌, min}
use native.Mathlib.Omega.{arith}
use native.Mathlib.Numerals.{add-one}
use lib.Dec.{ltb}
use lib.ListN.{length, get_or, take}
use lib.Seq.{take-suc, take_all}
use Rattle.text.specs.Hex.{hexadecimal}
use Rattle.account.specs.declared.Codes.{Codes}
use Rattle.account.specs.Codes.{told}
use Rattle.replay_replies.specs.Lines.{codes_text}
use Rattle.refusal.proofs.Tests.{cases}
use borrow.Author.Tests.{ltb-true, ltb-false}

codes-behind : (v : List ℕ) (x : ℕ) → codes_text (v ++ (x ∷ [])) ≡ codes_text v ++ (32 ∷ hexadecimal x)
unfolding codes_text
codes-behind [] x = rw append-nil
codes-behind (y ∷ v) x = rw (codes-behind v x) (simp append_assoc)

pub codes-none : codes_text [] ≡ []
unfolding codes_text
codes-none = refl

pub codes-more : (v : List ℕ) (k : ℕ) → k < length v → codes_text (take (k + 1) v) ≡ codes_text (take k v) ++ (32 ∷ hexadecimal (get_or v k 0))
codes-more v k h = rw (add-one, take-suc v k 0, codes-behind)

-- the first eight of eight are all that a count of eight or more asks for
pub codes-told : (k : Codes) → length k.list ≡ 8 → take (min k.count 8) k.list ≡ told k
codes-told k e =
    cases (ltb k.count 8)
    (λ t. let h : min k.count 8 ≡ k.count = omega (arith, ltb-true k.count 8 t) in rw h)
    (λ t. let h : 8 ≤ k.count = ltb-false k.count 8 t in
    let m : min k.count 8 ≡ 8 = omega arith in
    rw (m, take_all 8 k.list (omega arith), take_all k.count k.list (omega arith)))
