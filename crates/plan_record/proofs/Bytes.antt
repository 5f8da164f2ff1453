-- The bytes of a record one by one. Assumes nothing.
use mathlib.Core.Path.{◌≡◌, refl}
use mathlib.Core.List.{List, [], ◌∷◌}
use Prim.Native.Nat.{ℕ, zero, suc, ◌<◌}
use native.Mathlib.Nat.{not-suc-le-zero, le_of_suc-le-suc}
use lib.ListN.{length, get_or}
use Rattle.plan.specs.declared.Plan.{Plan}
use Rattle.plan_record.specs.Fields.{eight_bytes, bytes_of}

-- f 0, f 1, .. : n of them
abbrev pub table : (ℕ → ℕ) → ℕ → List ℕ
table f zero = []
table f (suc n) = f 0 ∷ table (λ k. f (suc k)) n

pub table_at : (f : ℕ → ℕ) (n j : ℕ) → j < n → get_or (table f n) j 0 ≡ f j
table_at f zero j h = absurd (not-suc-le-zero h)
table_at f (suc n) zero h = refl
table_at f (suc n) (suc j) h = table_at (λ k. f (suc k)) n j (le_of_suc-le-suc h)

-- a record has 66 bytes
pub bytes-length : (p : Plan) → length (bytes_of p) ≡ 66
unfolding bytes_of eight_bytes
bytes-length p = refl
