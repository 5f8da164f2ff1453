-- The records of a shelf: how many there are, and record k, as the words say it. Assumes nothing.
use mathlib.Core.Path.{◌≡◌, refl, ap}
use mathlib.Core.List.{List, [], ◌∷◌}
use Prim.Native.Nat.{ℕ, zero, suc, ◌+◌, ◌*◌, ◌≤◌, ◌<◌}
use native.Mathlib.Omega.{arith}
use lib.ListN.{length, get_or}
use Rattle.std.specs.Prelude.{Ok, Err}
use Rattle.refusal.specs.declared.Refusal.TheVariants.{NotHeld}
use Rattle.records.specs.declared.Record.{Record}
use Rattle.records.specs.declared.Shelf.{Shelf}
use Rattle.records.specs.declared.Shelf.TheVariants.{Day, Month}
use Rattle.records.specs.Records.{no_record}
use Rattle.records.specs.Queries.{fetched}
use Rattle.records.specs.Words.{day_place, month_place, shelf_place, record_at, rows, held_from, held_on}

-- as many are held as the count says
rows_long : (h : List ℕ) (at n : ℕ) → length (rows h at n) ≡ n
unfolding rows
rows_long h at zero = refl
rows_long h at (suc n) = ap suc (rows_long h (at + 3) n)

pub held-long : (from : ℕ) (h : List ℕ) → length (held_from from h) ≡ get_or h from 0
unfolding held_from
held-long from h = rows_long h (from + 1) (get_or h from 0)

pub shelf_long : (s : Shelf) (h : List ℕ) → length (held_on s h) ≡ get_or h (shelf_place s) 0
shelf_long Day h = held-long day_place h
shelf_long Month h = held-long month_place h

-- record k begins three words behind the one before it
pub row_at : (h : List ℕ) (from n k : ℕ) → k < n → record_at h (from + 3 * k + 1) ≡ get_or (rows h (from + 1) n) k no_record
unfolding rows
row_at h from zero k p = absurd (omega arith)
row_at h from (suc n) zero p = let e : from + 3 * 0 + 1 ≡ from + 1 = omega arith in rw e
row_at h from (suc n) (suc k) p =
    let e : from + 3 * suc k + 1 ≡ from + 3 + 3 * k + 1 = omega arith in
    let f : from + 1 + 3 ≡ from + 3 + 1 = omega arith in
    rw (e, f) (row_at h (from + 3) n k (omega arith))

pub shelf_at : (s : Shelf) (h : List ℕ) (k : ℕ)
    → k < length (held_on s h)
    → record_at h (shelf_place s + 3 * k + 1) ≡ get_or (held_on s h) k no_record
unfolding held_from
shelf_at Day h k p = row_at h day_place (get_or h day_place 0) k (omega (arith, held-long day_place h))
shelf_at Month h k p = row_at h month_place (get_or h month_place 0) k (omega (arith, held-long month_place h))

-- record k of a list: it is there, or the list is no longer than k
pub fetched_held : (l : List Record) (k : ℕ) → k < length l → fetched l k ≡ Ok (get_or l k no_record)
unfolding fetched
fetched_held [] k p = absurd (omega arith)
fetched_held (r ∷ l) zero p = refl
fetched_held (r ∷ l) (suc k) p = fetched_held l k (omega arith)

pub fetched_not : (l : List Record) (k : ℕ) → length l ≤ k → fetched l k ≡ Err NotHeld
unfolding fetched
fetched_not [] k p = refl
fetched_not (r ∷ l) zero p = absurd (omega arith)
fetched_not (r ∷ l) (suc k) p = fetched_not l k (omega arith)
