-- A line of numbers: each but the last with a space behind it, and the last with a newline. Assumes nothing.
use mathlib.Core.Path.{◌≡◌, refl, sym, ap, ◌∙◌}
use mathlib.Core.List.{List, [], ◌∷◌, ◌++◌, append_assoc}
use Prim.Native.Nat.{ℕ, ◌+◌, ◌<◌}
use native.Mathlib.Omega.{arith}
use native.Mathlib.Numerals.{add-one}
use lib.ListN.{length, get_or, take}
use lib.Seq.{take-suc, take-length}
use Rattle.text.specs.Decimal.{decimal, spaced}

unfoldable pub trailed : List ℕ → List ℕ
trailed [] = []
trailed (x ∷ v) = decimal x ++ (32 ∷ trailed v)

trailed-behind : (v : List ℕ) (x : ℕ) → trailed (v ++ (x ∷ [])) ≡ trailed v ++ (decimal x ++ (32 ∷ []))
unfolding trailed
trailed-behind [] x = refl
trailed-behind (y ∷ v) x = rw (trailed-behind v x, append_assoc)

spaced-behind : (v : List ℕ) (x : ℕ) → spaced (v ++ (x ∷ [])) ≡ trailed v ++ decimal x
unfolding spaced trailed
spaced-behind [] x = refl
spaced-behind (y ∷ []) x = rw append_assoc
spaced-behind (y ∷ (z ∷ v)) x = rw (spaced-behind (z ∷ v) x) (simp append_assoc)

pub trailed-none : trailed [] ≡ []
unfolding trailed
trailed-none = refl

pub trailed-more : (v : List ℕ) (k : ℕ) → k < length v
    → trailed (take (k + 1) v) ≡ trailed (take k v) ++ (decimal (get_or v k 0) ++ (32 ∷ []))
trailed-more v k h = rw (add-one, take-suc v k 0, trailed-behind)

pub line : (v : List ℕ) (k : ℕ) → k + 1 ≡ length v
    → spaced v ++ (10 ∷ []) ≡ trailed (take k v) ++ (decimal (get_or v k 0) ++ (10 ∷ []))
line v k e =
    let whole : v ≡ take k v ++ (get_or v k 0 ∷ []) = sym (take-length v) ∙ ap (λ (n : ℕ). take n v) (sym e ∙ add-one k) ∙ take-suc v k 0 (omega arith) in
    ap (λ (l : List ℕ). spaced l ++ (10 ∷ [])) whole ∙ rw (spaced-behind, append_assoc)
