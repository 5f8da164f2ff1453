-- A number below 100,000,000 as four bytes of two decimal digits, and back. Assumes nothing.
use mathlib.Core.Path.{◌≡◌, refl}
use mathlib.Core.Bool.{Bool, true, false, cond, ◌&&◌}
use mathlib.Core.List.{[], ◌∷◌}
use Prim.Native.Nat.{ℕ, ◌+◌, ◌*◌, ◌/◌, ◌%◌, ◌≤◌, ◌<◌}
use native.Mathlib.Omega.{arith}
use Rattle.refusal.proofs.Tests.{split}
use Rattle.digits.specs.Digits.{pair_of}
use Rattle.digits.proofs.Digits.{byte_pair, byte-digits, pair-byte}
use Rattle.plan.specs.Rules.{most_number}
use Rattle.plan_record.specs.Digits.{two_digits, number_of, quad_of, quad_at, four_bytes}

-- a number of eight digits, by hundreds
regroup : (x : ℕ) → x ≤ most_number → ((x / 1000000 % 100 * 100 + x / 10000 % 100) * 100 + x / 100 % 100) * 100 + x % 100 ≡ x
regroup x h =
    let top : x / 1000000 % 100 * 100 + x / 10000 % 100 ≡ x / 10000 = omega arith in
    let whole : x / 10000 * 100 + x / 100 % 100 ≡ x / 100 = omega arith in
    rw (top, whole) (omega arith)

apart : (a b c d : ℕ) → a < 100 → b < 100 → c < 100 → d < 100
    → let x = ((a * 100 + b) * 100 + c) * 100 + d in
    (x / 1000000 % 100 ≡ a) × (x / 10000 % 100 ≡ b) × (x / 100 % 100 ≡ c) × (x % 100 ≡ d)
apart a b c d ha hb hc hd = (omega arith, omega arith, omega arith, omega arith)

-- written and then read
pub quad-back : (x : ℕ) → x ≤ most_number → quad_at (four_bytes x) 0 ≡ x
unfolding quad_of
quad-back x h =
    let a : x / 1000000 % 100 < 100 = omega arith in
    let b : x / 10000 % 100 < 100 = omega arith in
    let c : x / 100 % 100 < 100 = omega arith in
    let d : x % 100 < 100 = omega arith in
    rw (byte-digits _ a, byte-digits _ b, byte-digits _ c, byte-digits _ d, byte_pair _ a, byte_pair _ b, byte_pair _ c, byte_pair _ d) (regroup x h)

-- a field that is a number has two digits in each byte
good : (t : Bool) (x : ℕ) → cond t x 100000000 ≤ most_number → (t ≡ true) × (cond t x 100000000 ≡ x)
good true x h = (refl, refl)
good false x h = absurd (let z : 100000000 ≤ most_number = h in omega arith)

-- read and then written
pub quad-there : (a b c d : ℕ) → quad_of a b c d ≤ most_number → four_bytes (quad_of a b c d) ≡ a ∷ b ∷ c ∷ d ∷ []
unfolding quad_of
quad-there a b c d h =
    let g = good (two_digits a && (two_digits b && (two_digits c && two_digits d))) (number_of a b c d) h in
    let ta = split {a = two_digits a} g.0 in
    let tb = split {a = two_digits b} ta.1 in
    let tc = split {a = two_digits c} tb.1 in
    let pa = pair-byte a ta.0 in
    let pb = pair-byte b tb.0 in
    let pc = pair-byte c tc.0 in
    let pd = pair-byte d tc.1 in
    let k = apart (pair_of a) (pair_of b) (pair_of c) (pair_of d) pa.1 pb.1 pc.1 pd.1 in
    rw (g.1, k.0, k.1, k.2, k.3, pa.0, pb.0, pc.0, pd.0)
