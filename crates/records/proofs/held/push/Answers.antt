-- The words of the records that stay are copied three places up; the count and the new record's words are put before them.
use Rattle.std.proofs.Common.{◌≡◌, ℕ, List, ◌++◌, ◌∷◌, refl, ◌∙◌, ◌+◌, ◌-◌, ◌*◌, ◌≤◌, arith, length, length-append, take, drop, append_assoc, take-take}
use Rattle.std.proofs.lemmas.List.{take-append-le}
use Rattle.std.proofs.lemmas.List.Edits.{sets, sets-eq}
use lib.Seq.{paste, drop_at, length-take-le}
use Rattle.records.specs.Words.{record_words}
use Rattle.records.specs.Moves.{pushed}
use Rattle.records.proofs.held.push.Goals as goal

moved : (h w : List ℕ) (from n : ℕ)
    → length w ≡ 4
    → from + n + 4 ≤ length h
    → sets (paste h (from + 4) (drop (from + 1) h) n) from w
    ≡ take from h ++ (w ++ (take n (drop (from + 1) h) ++ drop (from + n + 4) h))
moved h w from n four p =
    let head = take (from + 4) h in
    let rest = take n (drop (from + 1) h) ++ drop (from + 4 + n) h in
    let m : length head ≡ from + 4 = length-take-le (from + 4) h (omega arith) in
    let k : from + 4 + n ≡ from + n + 4 = omega arith in
    let fits : from + length w ≤ length (head ++ rest) = simp length-append (omega arith) in
    let d : take from (head ++ rest) ≡ take from h = take-append-le from head rest (omega arith) ∙ take-take from (from + 4) h (omega arith) in
    let e : drop (from + length w) (head ++ rest) ≡ rest = drop_at head rest (from + length w) (m ∙ omega arith) in
    rw (append_assoc head (take n (drop (from + 1) h)) (drop (from + 4 + n) h))
    (sets-eq w (head ++ rest) from fits ∙ rw (d, e, append_assoc, k))

pub returns : goal.returns
unfolding pushed
returns c =
    let h = c.args.h.now in
    let n = c.min-n.result in
    let from = c.place-from.result in
    let three : from + 1 + 3 * n - (from + 1) ≡ 3 * n = omega arith in
    rw (
      ← c.place-from.ensures.place,
      ← c.limit.ensures.limit,
      ← c.min-n.ensures,
      c.put.ensures,
      c.copy_within.ensures.after,
      three,
    )
    (moved h ((n + 1) ∷ record_words c.args.r) from (3 * n) refl (omega arith))
