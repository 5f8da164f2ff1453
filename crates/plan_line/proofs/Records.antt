-- Records one behind another, and their lines. Assumes nothing.
use mathlib.Core.Path.{◌≡◌, refl, sym, ap, ◌∙◌}
use mathlib.Core.List.{List, [], ◌∷◌, ◌++◌, append_assoc, append-nil}
use Prim.Native.Nat.{ℕ, zero, suc, ◌+◌, ◌*◌, ◌≤◌, ◌<◌, min}
use native.Mathlib.Omega.{arith}
use native.Mathlib.Nat.{add-zero, add-suc}
use native.Mathlib.Numerals.{add-one}
use lib.ListN.{length, take, drop, length-append, length-drop, drop_of_length-le}
use lib.Seq.{take_all, take_at, drop_at, drop-drop, take-append-le, drop-append-le, drop-append-add}
use Rattle.plan_line.specs.Line.{line_of}
use Rattle.plan_line.specs.Records.{records_in, record_at, lines_to, lines_of}

-- a part x at the front of a list: 66 bytes, or all of it
front-part : (l x tail : List ℕ) → l ≡ x ++ tail → length x ≡ min 66 (length l) → (x ≡ take 66 l) × (tail ≡ drop 66 l)
front-part l x [] e h =
    let n : length l ≡ length x + 0 = ap length e ∙ length-append x [] in
    (sym (append-nil x) ∙ sym e ∙ sym (take_all 66 l (omega arith)), sym (drop_of_length-le l {i = 66} (omega arith)))
front-part l x (y ∷ tail) e h =
    let n : length l ≡ length x + suc (length tail) = ap length e ∙ length-append x (y ∷ tail) in
    let k : length x ≡ 66 = omega arith in
    (sym (ap (take 66) e ∙ take_at x (y ∷ tail) 66 k), sym (ap (drop 66) e ∙ drop_at x (y ∷ tail) 66 k))

-- the first part of what stands behind n records is the next record
module _ (s : List ℕ) (n : ℕ) where
  module _ (x tail : List ℕ) (e : drop (66 * n) s ≡ x ++ tail) (h : length x ≡ min 66 (length (drop (66 * n) s))) where
    pub next-record : x ≡ record_at s n
    unfolding record_at
    next-record = (front-part (drop (66 * n) s) x tail e h).0

    pub rest-behind : tail ≡ drop (66 * (n + 1)) s
    rest-behind =
        let k : 66 * n + 66 ≡ 66 * (n + 1) = omega arith in
        (front-part (drop (66 * n) s) x tail e h).1 ∙ drop-drop 66 (66 * n) s ∙ ap (λ (i : ℕ). drop i s) k

  pub more-records : 0 < length (drop (66 * n) s) → n + 1 ≤ records_in s
  unfolding records_in
  more-records h = omega (arith, length-drop (66 * n) s)

  pub all-records : n ≤ records_in s → length (drop (66 * n) s) ≡ 0 → n ≡ records_in s
  unfolding records_in
  all-records l h = omega (arith, length-drop (66 * n) s)

pub no_lines : (s : List ℕ) → lines_to s 0 ≡ []
unfolding lines_to
no_lines s = refl

pub next-line : (s : List ℕ) (i : ℕ) → lines_to s (i + 1) ≡ lines_to s i ++ line_of (record_at s i)
unfolding lines_to
next-line s i = rw add-one

-- A LIST OF WHOLE RECORDS AND WHAT FOLLOWS IT: so printing piece by piece prints the lines of the whole input
module _ (a b : List ℕ) (k : ℕ) (e : length a ≡ 66 * k) where
  front : (i : ℕ) → i < k → record_at (a ++ b) i ≡ record_at a i
  unfolding record_at
  front i h =
      let l = length-drop (66 * i) a in
      rw (drop-append-le (66 * i) a b (omega arith), take-append-le 66 (drop (66 * i) a) b (omega arith))

  back : (j : ℕ) → record_at (a ++ b) (k + j) ≡ record_at b j
  unfolding record_at
  back j = let n : 66 * (k + j) ≡ length a + 66 * j = omega arith in rw (n, drop-append-add a b (66 * j))

  fronts : (i : ℕ) → i ≤ k → lines_to (a ++ b) i ≡ lines_to a i
  unfolding lines_to
  fronts zero h = refl
  fronts (suc i) h = rw (fronts i (omega arith), front i (omega arith))

  backs : (j : ℕ) → lines_to (a ++ b) (k + j) ≡ lines_to a k ++ lines_to b j
  unfolding lines_to
  backs zero = rw (add-zero k, append-nil) (fronts k (omega arith))
  backs (suc j) = rw (add-suc k j, backs j, back j, append_assoc)

  count-front : records_in a ≡ k
  unfolding records_in
  count-front = omega arith

  count-both : records_in (a ++ b) ≡ k + records_in b
  unfolding records_in
  count-both = rw length-append (omega arith)

  pub pieces : lines_of (a ++ b) ≡ lines_of a ++ lines_of b
  unfolding lines_of
  pieces = rw (count-both, count-front) (backs (records_in b))
