-- Texts put into a buffer one behind another, from a place on. Assumes nothing.
use mathlib.Core.Path.{◌≡◌, refl, sym, ◌∙◌}
use mathlib.Core.List.{List, [], ◌++◌, append_assoc, append-nil}
use Prim.Native.Nat.{ℕ, ◌+◌, ◌-◌, ◌≤◌, ◌<◌}
use native.Mathlib.Omega.{arith}
use lib.ListN.{take-append-drop, length, take, drop, length-append, drop_of_length-le}
use lib.Seq.{drop-drop, take_at, drop_at, take_all, length-take-le, drop-nil}
use lib.Dec.{leb}
use borrow.Author.Tests.{leb-true, leb-false}
use borrow.Rule.Slice.PartMut.{mid_of, put_mid, same_len_mid}
use borrow.Rule.Slice.Mut.{set_vals}
use Rattle.text.specs.Decimal.{starting_with}
use Rattle.text.specs.Written.{Written}
use Rattle.text.proofs.Behind.{part-is, part-put}
use Rattle.refusal.proofs.Tests.{cases}
use Rattle.text_writer.specs.declared.TextWriter.{TextWriter}
use Rattle.text_writer.specs.TextWriter.{behind, Appended}

-- a text put into the part of the buffer behind what the writer has put, `&mut self.buffer[self.used..]`
pub in-part : {m n : ℕ} {text part : List ℕ} {p q : TextWriter} → Written text m (mid_of p.used (length p.buffer.now - p.used) p.buffer.now) n part
    → length part ≡ length (mid_of p.used (length p.buffer.now - p.used) p.buffer.now)
    → q ≡ record { buffer = set_vals (put_mid p.used (length p.buffer.now - p.used) p.buffer.now part) p.buffer; used = p.used + n }
    → Appended text m p q
unfolding behind
in-part {part = part} {p = p} w l e = rw e (record {
  same_reference = refl;
  same_length = rw same_len_mid refl;
  used = rw w.count;
  few = omega arith;
  buffer = part-put p.used p.buffer.now part ∙ rw (w.buffer, part-is);
})

pub nothing : (p : TextWriter) → Appended [] 0 p p
unfolding starting_with behind
nothing p = record {
  same_reference = refl;
  same_length = refl;
  used = omega arith;
  few = omega arith;
  buffer = sym (take-append-drop p.used p.buffer.now);
}

-- the bound may be larger, and the text another that is the same
pub within : {t a : List ℕ} {m n : ℕ} {p q : TextWriter} → t ≡ a → m ≤ n → Appended a m p q → Appended t n p q
within e h w = rw e (record { same_reference = w.same_reference; same_length = w.same_length; used = w.used; few = omega arith; buffer = w.buffer })

-- the buffer before the place behind a text, and from there on
module _ (at : ℕ) (a d : List ℕ) (h : at ≤ length d) where
  front : length (take at d ++ a) ≡ at + length a
  front = rw (length-append, length-take-le at d h)

  before : take (at + length a) (behind at a d) ≡ take at d ++ a
  unfolding starting_with behind
  before = rw (← append_assoc) (take_at (take at d ++ a) _ (at + length a) front)

  beyond : drop (at + length a) (behind at a d) ≡ drop (length a) (drop at d)
  unfolding starting_with behind
  beyond = rw (← append_assoc) (drop_at (take at d ++ a) _ (at + length a) front)

inside : (at : ℕ) (a b d : List ℕ) → at ≤ length d → behind (at + length a) b (behind at a d) ≡ behind at (a ++ b) d
unfolding starting_with behind
inside at a b d h =
    rw (before at a d h, beyond at a d h, drop-drop (length b) (length a) (drop at d), length-append) (simp append_assoc)

-- a place past the end stands for the end
past : (at : ℕ) (a d : List ℕ) → length d ≤ at → behind at a d ≡ d ++ a
unfolding starting_with behind
past at a d h = rw (take_all at d h, drop_of_length-le d h, drop-nil, append-nil)

joined : (at : ℕ) (a b d : List ℕ) → behind (at + length a) b (behind at a d) ≡ behind at (a ++ b) d
joined at a b d =
    cases (leb at (length d))
    (λ t. inside at a b d (leb-true at (length d) t))
    (λ t. let h : length d < at = leb-false at (length d) t in
    let k : length (d ++ a) ≤ at + length a = rw length-append (omega arith) in
    rw (past at a d (omega arith), past (at + length a) b (d ++ a) k, past at (a ++ b) d (omega arith), append_assoc))

-- a text behind a text
pub then : {a b : List ℕ} {m n : ℕ} {p q r : TextWriter} → Appended a m p q → Appended b n q r → Appended (a ++ b) (m + n) p r
then {a} {b} {p = p} f g = record {
  same_reference = cc;
  same_length = cc;
  used = rw (g.used, f.used, length-append) (omega arith);
  few = omega arith;
  buffer = rw (g.buffer, f.used, f.buffer) (joined p.used a b p.buffer.now);
}

-- by a writer that had put nothing and is given up: at the start of the buffer
pub first : {t a d out : List ℕ} {m n r : ℕ} {p q : TextWriter} → p.used ≡ 0 → p.buffer.now ≡ d → r ≡ q.used → out ≡ q.buffer.now
    → t ≡ a → m ≤ n → Appended a m p q → Written t n d r out
unfolding behind
first z w u k e h g = rw (e, ← w, u, k) (record { count = omega arith; few = omega arith; buffer = rw z at g.buffer })
