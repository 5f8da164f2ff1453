-- What the words hold after a push: word by word, and then as records. Assumes nothing.
use mathlib.Core.Path.{◌≡◌, refl, ◌∙◌}
use mathlib.Core.List.{List, ◌∷◌, ◌++◌}
use Prim.Native.Nat.{ℕ, zero, suc, ◌+◌, ◌-◌, ◌*◌, ◌/◌, ◌%◌, ◌^◌, min, ◌<◌}
use native.Mathlib.Omega.{arith}
use native.Mathlib.Nat.{add-zero, add_assoc}
use lib.ListN.{take, drop, get_or, length, length-append, length-drop, get_or-append}
use lib.Seq.{length-take-le, get_or-take, get_or-drop, get_or-append-add}
use lib.IntN.{ℤ, pos, negsuc}
use lib.Signed.{mag}
use mir.Syntax.{w64}
use mir.ValLaws.{to_z-of_z}
use Rattle.records.specs.declared.Record.{Record}
use Rattle.records.specs.Records.{in_front}
use Rattle.records.specs.Words.{balance_of, balance_word, record_words, record_from, record_at, rows, held_from}
use Rattle.records.specs.Moves.{pushed}

-- a balance is read again from its word
pub read_back : (z : ℤ) → mag z < 2 ^ 63 → balance_of (balance_word z) ≡ z
read_back (pos n) h = to_z-of_z w64 (pos n) (record { sfits = h })
read_back (negsuc n) h = to_z-of_z w64 (negsuc n) (record { sfits = h })

-- a record whose numbers fit their words
pub record Fits (r : Record) : Type 0 where
  pub date : r.date < 2 ^ 32
  pub closing : mag r.closing.0 < 2 ^ 63

-- a record is read again from its words
pub record-back : (r : Record) → Fits r → record_from (r.volume.0 * 2 ^ 32 + r.date) r.charge.0 (balance_word r.closing.0) ≡ r
unfolding record_from
record-back r f =
    let d : (r.volume.0 * 2 ^ 32 + r.date) % 2 ^ 32 ≡ r.date = omega arith in
    let v : (r.volume.0 * 2 ^ 32 + r.date) / 2 ^ 32 ≡ r.volume.0 = omega arith in
    rw (d, v, read_back r.closing.0 f.closing)

-- rows are read off their words
pub rows_same : (g h : List ℕ) (a b n : ℕ) → ((j : ℕ) → j < 3 * n → get_or g (a + j) 0 ≡ get_or h (b + j) 0) → rows g a n ≡ rows h b n
unfolding rows
rows_same g h a b zero p = refl
rows_same g h a b (suc n) p =
    let p0 : get_or g a 0 ≡ get_or h b 0 = simp add-zero at (p 0 (omega arith)) in
    rw (p0, p 1 (omega arith), p 2 (omega arith), rows_same g h (a + 3) (b + 3) n (λ j k. simp add_assoc (p (3 + j) (omega arith))))

pub rows_take : (h : List ℕ) (at m n : ℕ) → take m (rows h at n) ≡ rows h at (min m n)
unfolding rows
rows_take h at zero n = let e : min 0 n ≡ 0 = omega arith in rw e
rows_take h at (suc m) zero = let e : min (suc m) 0 ≡ 0 = omega arith in rw e
rows_take h at (suc m) (suc n) =
    let e : min (suc m) (suc n) ≡ suc (min m n) = omega arith in
    rw (e, rows_take h (at + 3) m n)

-- how many records move, and all the words from the count on
abbrev stay : ℕ → ℕ → List ℕ → ℕ
stay from limit h = min (get_or h from 0) (limit - 1)

abbrev moving : ℕ → ℕ → List ℕ → List ℕ
moving from n h = take (3 * n) (drop (from + 1) h)

abbrev resting : ℕ → ℕ → List ℕ → List ℕ
resting from n h = drop (from + 3 * n + 4) h

take-front : {A : Type 0} (n : ℕ) (x : A) (l : List A) → 0 < n → take n (x ∷ l) ≡ x ∷ take (n - 1) l
take-front zero x l p = absurd (omega arith)
take-front (suc n) x l p = let e : suc n - 1 ≡ n = omega arith in rw e

module _ (from limit : ℕ) (r : Record) (h : List ℕ) (some : 0 < limit) (fits : from + 3 * limit < length h) where
  front : length (take from h) ≡ from
  front = length-take-le from h (omega arith)

  moving-long : length (moving from (stay from limit h) h) ≡ 3 * stay from limit h
  moving-long = length-take-le _ (drop (from + 1) h) (simp length-drop (omega arith))

  pub pushed_long : length (pushed from limit r h) ≡ length h
  unfolding pushed
  pushed_long = simp (length-append, front, moving-long, length-drop) (omega arith)

  -- the words before the count
  pub pushed-before : (k : ℕ) → k < from → get_or (pushed from limit r h) k 0 ≡ get_or h k 0
  unfolding pushed
  pushed-before k p = get_or-append (take from h) _ 0 k (omega (arith, front)) ∙ get_or-take from h k 0 p

  -- the words from the count on
  behind : (j : ℕ)
      → get_or (pushed from limit r h) (from + j) 0
      ≡ get_or ((stay from limit h + 1) ∷ (record_words r ++ (moving from (stay from limit h) h ++ resting from (stay from limit h) h))) j 0
  unfolding pushed
  behind j =
      let n = stay from limit h in
      rw front at (get_or-append-add (take from h) ((n + 1) ∷ (record_words r ++ (moving from n h ++ resting from n h))) j 0)

  pub pushed-count : get_or (pushed from limit r h) from 0 ≡ stay from limit h + 1
  pushed-count = simp add-zero at (behind 0)

  pub pushed-new : Fits r → record_at (pushed from limit r h) (from + 1) ≡ r
  pushed-new f =
      let a : from + 1 + 1 ≡ from + 2 = omega arith in
      let b : from + 1 + 2 ≡ from + 3 = omega arith in
      rw (a, b, behind 1, behind 2, behind 3) (record-back r f)

  moved : (j : ℕ) → j < 3 * stay from limit h → get_or (pushed from limit r h) (from + 1 + 3 + j) 0 ≡ get_or h (from + 1 + j) 0
  moved j p =
      let n = stay from limit h in
      let e : from + 1 + 3 + j ≡ from + suc (suc (suc (suc j))) = omega arith in
      rw (e, behind (suc (suc (suc (suc j)))))
      (get_or-append (moving from n h) (resting from n h) 0 j (omega (arith, moving-long))
      ∙ get_or-take (3 * n) (drop (from + 1) h) j 0 p
      ∙ get_or-drop (from + 1) h j 0)

  -- the words behind the last record
  pub pushed-after : (k : ℕ) → from + 3 * limit < k → get_or (pushed from limit r h) k 0 ≡ get_or h k 0
  pushed-after k p =
      let n = stay from limit h in
      let i = k - (from + 3 * n + 4) in
      let e : from + suc (suc (suc (suc (3 * n + i)))) ≡ k = omega arith in
      let f : from + 3 * n + 4 + i ≡ k = omega arith in
      rw (e, f) at
      (behind (suc (suc (suc (suc (3 * n + i)))))
      ∙ (rw moving-long at (get_or-append-add (moving from n h) (resting from n h) i 0))
      ∙ get_or-drop (from + 3 * n + 4) h i 0)

  -- the records
  pub pushed-rows : Fits r → held_from from (pushed from limit r h) ≡ in_front limit r (held_from from h)
  unfolding rows held_from
  pushed-rows f =
      let n = stay from limit h in
      let e : get_or (pushed from limit r h) from 0 ≡ suc n = omega (arith, pushed-count) in
      let m : min (limit - 1) (get_or h from 0) ≡ n = omega arith in
      rw (
        e,
        pushed-new f,
        rows_same (pushed from limit r h) h (from + 1 + 3) (from + 1) n moved,
        take-front limit r (rows h (from + 1) (get_or h from 0)) some,
        rows_take h (from + 1) (limit - 1) (get_or h from 0),
        m,
      )
