-- Laws of the codes: lists are noted one after the other, and the array holds the list. Assumes nothing.
use mathlib.Core.Path.{◌≡◌, refl, sym, ap, ◌∙◌}
use mathlib.Core.List.{List, [], ◌∷◌, ◌++◌, append-nil, append_assoc}
use Prim.Native.Nat.{ℕ, ◌+◌, ◌≤◌, ◌<◌}
use native.Mathlib.Omega.{arith}
use native.Mathlib.Numerals.{add-one}
use borrow.Author.Tests.{lt-ltb}
use lib.ListN.{length, set, length-set}
use lib.Seq.{take-suc-set}
use Rattle.account.specs.declared.Codes.{Codes}
use Rattle.account.specs.Codes.{no_codes, noted, note_all, told}

-- two lists noted one after the other are their join noted
pub note-append : (k : Codes) (a b : List ℕ) → note_all (note_all k a) b ≡ note_all k (a ++ b)
unfolding note_all
note-append k [] b = refl
note-append k (c ∷ a) b = note-append (noted k c) a b

-- where the list is not full, a code goes behind those that are there
abbrev after : Codes → ℕ → Codes
after k c = record { count = k.count + 1; list = set k.list k.count c }

noted-is : (k : Codes) (c : ℕ) → k.count < 8 → noted k c ≡ after k c
unfolding noted
noted-is k c h = rw (lt-ltb k.count 8 h)

told-after : (k : Codes) (c : ℕ) → k.count < length k.list → told (after k c) ≡ told k ++ (c ∷ [])
told-after k c h = rw (add-one k.count) (take-suc-set k.list k.count c h)

-- a list that fits stands behind the codes that are there
pub told_more : (k : Codes) (cs : List ℕ) → length k.list ≡ 8 → k.count + length cs ≤ 8 → told (note_all k cs) ≡ told k ++ cs
unfolding note_all
told_more k [] e h = sym (append-nil (told k))
told_more k (c ∷ cs) e h =
    ap (λ (m : Codes). told (note_all m cs)) (noted-is k c (omega arith))
    ∙ told_more (after k c) cs (length-set k.list k.count c ∙ e) (omega arith)
    ∙ ap (λ (l : List ℕ). l ++ cs) (told-after k c (omega arith))
    ∙ append_assoc (told k) (c ∷ []) cs

-- the array holds exactly the list, where it is not longer than eight
pub told-note : (cs : List ℕ) → length cs ≤ 8 → told (note_all no_codes cs) ≡ cs
told-note cs h = told_more no_codes cs refl (omega arith)
