-- Texts put into a buffer one behind the other. Assumes nothing.
use mathlib.Core.Path.{◌≡◌, refl, sym, ap, ◌∙◌}
use mathlib.Core.List.{List, [], ◌∷◌, ◌++◌, append_assoc, append-nil}
use Prim.Native.Nat.{ℕ, ◌+◌, ◌-◌, ◌≤◌, ◌<◌}
use native.Mathlib.Omega.{arith}
use native.Mathlib.Numerals.{add-one}
use lib.ListN.{length, take, drop, set, length-append, length-drop, drop_of_length-le}
use lib.Seq.{drop-drop, drop-cons, set_at, take_at, drop_at, take_all}
use borrow.Rule.Slice.PartMut.{mid_of, put_mid}
use Rattle.text.specs.Decimal.{starting_with}
use Rattle.text.specs.Written.{Written}

-- the part `&mut out[at..]` is all that stands from the place on, and what is put there stands behind the rest
pub part-is : (at : ℕ) (out : List ℕ) → mid_of at (length out - at) out ≡ drop at out
part-is at out = take_all (length out - at) (drop at out) (omega (arith, length-drop at out))

pub part-put : (at : ℕ) (out part : List ℕ) → put_mid at (length out - at) out part ≡ take at out ++ part
part-put at out part =
    let post : drop (length out - at) (drop at out) ≡ [] = drop_of_length-le (drop at out) {i = length out - at} (omega (arith, length-drop at out)) in
    rw (post, append-nil)

pub nothing : (d : List ℕ) → Written [] 0 d 0 d
unfolding starting_with
nothing d = record { count = refl; few = omega arith; buffer = refl }

-- the bound may be larger, and the text another that is the same
pub within : {t a d out : List ℕ} {m n r : ℕ} → t ≡ a → m ≤ n → Written a m d r out → Written t n d r out
within e h p = rw e (record { count = p.count; few = omega arith; buffer = p.buffer })

-- a byte stored behind a text
pub byte-behind : {a d out : List ℕ} {m at : ℕ} (x : ℕ) → Written a m d at out → at < length d
    → Written (a ++ (x ∷ [])) (m + 1) d (at + 1) (set out at x)
unfolding starting_with
byte-behind {a} {d} {out} {m} {at} x p h = record {
  count = rw (length-append, p.count);
  few = omega arith;
  buffer = ap (λ (l : List ℕ). set l at x) (p.buffer ∙ ap (λ (l : List ℕ). a ++ l) (drop-cons d (length a) 0 (rw p.count at h)))
      ∙ set_at a _ _ x at (sym p.count)
      ∙ rw (length-append, append_assoc, add-one);
}

-- a text put into the part of the buffer behind a text
pub text-behind : {a b d out part : List ℕ} {m n at k : ℕ} → Written a m d at out → Written b n (mid_of at (length out - at) out) k part
    → Written (a ++ b) (m + n) d (at + k) (put_mid at (length out - at) out part)
unfolding starting_with
text-behind {a} {b} {d} {out} {part} {at = at} p g =
    let tk : take at out ≡ a = ap (λ (l : List ℕ). take at l) p.buffer ∙ take_at a (drop (length a) d) at (sym p.count) in
    let dp : drop at out ≡ drop (length a) d = ap (λ (l : List ℕ). drop at l) p.buffer ∙ drop_at a (drop (length a) d) at (sym p.count) in
    record {
      count = rw (length-append, p.count, g.count);
      few = omega arith;
      buffer = part-put at out part
          ∙ rw (g.buffer, part-is, tk, dp, length-append, ← drop-drop (length b) (length a) d, append_assoc);
    }
