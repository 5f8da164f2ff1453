-- A number with k decimals, one decimal after another. Assumes nothing.
use mathlib.Core.Path.{◌≡◌}
use mathlib.Core.List.{[], ◌∷◌, ◌++◌, append_assoc}
use Prim.Native.Nat.{ℕ, suc, ◌+◌, ◌/◌, ◌%◌, ◌^◌}
use native.Mathlib.Nat.{div-one, div-div-eq-div-mul, pow-succ'}
use Rattle.text.specs.Decimal.{decimal}
use Rattle.text_writer.specs.Value.{fixed, last_digits}

pub fixed-none : (x : ℕ) → fixed 0 x ≡ decimal x ++ (46 ∷ [])
unfolding fixed last_digits
fixed-none x = rw (div-one x)

-- the last digit stands behind the tenth, with one decimal less
pub fixed_more : (k x : ℕ) → fixed (suc k) x ≡ fixed k (x / 10) ++ ((48 + x % 10) ∷ [])
unfolding fixed last_digits
fixed_more k x =
    let q : x / 10 ^ suc k ≡ (x / 10) / 10 ^ k = rw (pow-succ', div-div-eq-div-mul) in
    rw (q, append_assoc)
