-- A content and a word are no longer than the text they stand in, and a word of pairs has half as many bytes. Assumes nothing.
use mathlib.Core.Path.{◌≡◌}
use mathlib.Core.Bool.{Bool, true, false, cond}
use mathlib.Core.List.{List, [], ◌∷◌}
use Prim.Native.Nat.{ℕ, zero, suc, ◌-◌, ◌/◌, ◌≤◌}
use native.Mathlib.Omega.{arith}
use lib.Dec.{eqb}
use lib.ListN.{length, take, get_or, length-take}
use Rattle.std.specs.List.{suffix_len, position_or_len, slice_split, onto_first}
use Rattle.replay_lexer.specs.Lines.{until}
use Rattle.replay_lexer.specs.Words.{is_blank, trimmed, content, word_at}
use Rattle.std.proofs.lemmas.List.FromFn.{length-map-range_with_len}
use Rattle.replay_lexer.specs.Hex.{pair_at, bytes_of}

take-most : (n : ℕ) (s : List ℕ) → length (take n s) ≤ length s
take-most n s = rw length-take (omega arith)

pub content-most : (line : List ℕ) → length (content line) ≤ length line
unfolding content trimmed until
content-most line =
    let u = take-most (position_or_len (λ x. eqb x 35) line) line in
    let h = take-most (length (until 35 line) - suffix_len is_blank (until 35 line)) (until 35 line) in
    omega arith

-- a part of a text that is split
module _ (p : ℕ → Bool) where
  onto-most : (x : ℕ) (n : ℕ) (parts : List (List ℕ)) → ((k : ℕ) → length (get_or parts k []) ≤ n) → (k : ℕ) → length (get_or (onto_first x parts) k []) ≤ suc n
  onto-most x n [] h zero = omega arith
  onto-most x n [] h (suc k) = omega arith
  onto-most x n (part ∷ parts) h zero = let e = h zero in omega arith
  onto-most x n (part ∷ parts) h (suc k) = let e = h (suc k) in omega arith

  none-most : (n : ℕ) (parts : List (List ℕ)) → ((k : ℕ) → length (get_or parts k []) ≤ n) → (k : ℕ) → length (get_or ([] ∷ parts) k []) ≤ suc n
  none-most n parts h zero = omega arith
  none-most n parts h (suc k) = let e = h k in omega arith

  part-most : (s : List ℕ) (k : ℕ) → length (get_or (slice_split p s) k []) ≤ length s
  part-most [] zero = omega arith
  part-most [] (suc k) = omega arith
  part-most (x ∷ s) k = by-test (p x) (part-most s)
    where
      by-test : (t : Bool) → ((k : ℕ) → length (get_or (slice_split p s) k []) ≤ length s)
          → length (get_or (cond t ([] ∷ slice_split p s) (onto_first x (slice_split p s))) k []) ≤ suc (length s)
      by-test true h = none-most (length s) (slice_split p s) h k
      by-test false h = onto-most x (length s) (slice_split p s) h k

pub word-most : (s : List ℕ) (k : ℕ) → length (word_at s k) ≤ length s
unfolding word_at
word-most s k = part-most (λ x. eqb x 32) s k

pub bytes-length : (w : List ℕ) → length (bytes_of w) ≡ length w / 2
unfolding bytes_of
bytes-length w = length-map-range_with_len (pair_at w) 0 (length w / 2)
