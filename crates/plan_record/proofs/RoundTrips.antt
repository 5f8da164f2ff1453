-- Both round trips: each field comes back from the bytes that it was written in, and is written in those that it was read from.
-- Assumes nothing.
use mathlib.Core.Path.{◌≡◌, refl, ap, ◌∙◌}
use mathlib.Core.Bool.{Bool, true, false, cond, not, ◌&&◌}
use mathlib.Core.List.{List, [], ◌∷◌, ◌++◌}
use Prim.Native.Nat.{ℕ, ◌+◌, ◌≤◌}
use native.Mathlib.Omega.{arith}
use lib.Dec.{ltb}
use lib.ListN.{get_or}
use borrow.Author.Tests.{ltb-true, leb-true}
use Rattle.std.specs.Prelude.{Ok}
use Rattle.refusal.proofs.Tests.{cases, split}
use Rattle.units.specs.declared.Hundredths.{Hundredths}
use Rattle.units.specs.declared.TenThousandths.{TenThousandths}
use Rattle.units.specs.Volume.{volume, price}
use Rattle.plan.specs.declared.Plan.{Plan}
use Rattle.plan.specs.Plan.{six, width_at, price_at, cycle_word, has_extra, kept, cleared}
use Rattle.plan.specs.Rules.{most_number, eight_digits, numbers_good, plan_refusal, is_good}
use Rattle.plan.proofs.GoodPlan.{tests, refusal-good, width-bound, price-range}
use Rattle.plan.proofs.Cleared.{cleared-plan-refusal, cleared-again}
use Rattle.plan_record.specs.Digits.{quad_at, four_bytes}
use Rattle.plan_record.specs.Fields.{record_length, fields_of, eight_bytes, bytes_of, byte_read}
use Rattle.plan_record.specs.PlanRecord.{read_of, plan_in, write_answer, read_byte}
use Rattle.plan_record.specs.RoundTrips.{WrittenRead, ReadWritten, RoundTrips}
use Rattle.plan_record.proofs.RecordRead.{read-refusal, read-plan, fields-good}
use Rattle.plan_record.proofs.Bytes.{table, table_at, bytes-length}
use Rattle.plan_record.proofs.Digits.{quad-back, quad-there}
use Rattle.plan_record.proofs.RecordWritten.{judged, filled}

-- a number that is 0 where it is not read is read back
kept_back : (t : Bool) (x : ℕ) → (t ≡ true → x ≤ most_number) → quad_at (four_bytes (cond t x 0)) 0 ≡ cond t x 0
kept_back true x h = quad-back x (h refl)
kept_back false x h = quad-back 0 (omega arith)

six-same : {A : Type 0} (f g : ℕ → A) → ((i : ℕ) → f i ≡ g i) → six f ≡ six g
six-same f g h = rw (h 0, h 1, h 2, h 3, h 4, h 5)

module _ (p : Plan) (h : is_good p ≡ true) where
  -- a good plan's numbers have eight digits at most where they are read
  numbers : (p.start ≤ most_number) × (p.end ≤ most_number) × (has_extra p ≡ true → (p.extra_1 ≤ most_number) × (p.extra_2 ≤ most_number))
  unfolding numbers_good
  numbers =
      let s = split {a = eight_digits p.start} (tests p h).numbers in
      let e = split {a = eight_digits p.end} s.1 in
      let x = split {a = cond (has_extra p) (eight_digits p.extra_1 && eight_digits p.extra_2) true} e.1 in (
        leb-true _ _ s.0,
        leb-true _ _ e.0,
        λ t. let f = split {a = eight_digits p.extra_1} (rw t at x.0) in (leb-true _ _ f.0, leb-true _ _ f.1),
      )

  width_back : (i : ℕ) → volume (quad_at (four_bytes (kept p p.widths (volume 0) i).0) 0) ≡ kept p p.widths (volume 0) i
  width_back i =
      cases (ltb i p.steps)
      (λ t. rw t (ap volume (quad-back _ (width-bound p h i (ltb-true _ _ t)))))
      (λ t. rw t (ap volume (quad-back 0 (omega arith))))

  price-back : (i : ℕ) → price (quad_at (four_bytes (kept p p.prices (price 0) i).0) 0) ≡ kept p p.prices (price 0) i
  price-back i =
      cases (ltb i p.steps)
      (λ t. rw t (ap price (quad-back _ (price-range p h i (ltb-true _ _ t)).1)))
      (λ t. rw t (ap price (quad-back 0 (omega arith))))

  -- each field is read from the bytes that it was written in
  fields_back : fields_of (bytes_of (cleared p)) ≡ cleared p
  unfolding fields_of bytes_of eight_bytes cleared
  fields_back =
      rw (
        quad-back p.start numbers.0,
        quad-back p.end numbers.1,
        kept_back (has_extra p) p.extra_1 (λ t. (numbers.2 t).0),
        kept_back (has_extra p) p.extra_2 (λ t. (numbers.2 t).1),
        six-same _ (kept p p.widths (volume 0)) width_back,
        six-same _ (kept p p.prices (price 0)) price-back,
      )

-- written and then read
written_read : WrittenRead
unfolding read_of
written_read p out h =
    let f = filled p out h in
    rw (f.1, bytes-length (cleared p), fields_back p f.0, cleared-plan-refusal p, refusal-good p f.0, cleared-again p)

-- four bytes of a record, zero where they are not read
abbrev four : List ℕ → Bool → ℕ → List ℕ
four s t i = cond t (get_or s i 0) 0 ∷ cond t (get_or s (i + 1) 0) 0 ∷ cond t (get_or s (i + 2) 0) 0 ∷ cond t (get_or s (i + 3) 0) 0 ∷ []

-- a field is written in the bytes that it was read from
field-kept : (s : List ℕ) (t : Bool) (i : ℕ) → (t ≡ true → quad_at s i ≤ most_number) → four_bytes (cond t (quad_at s i) 0) ≡ four s t i
field-kept s true i h = quad-there _ _ _ _ (h refl)
field-kept s false i h = refl

glue : {a b c d : List ℕ} → a ≡ b → c ≡ d → a ++ c ≡ b ++ d
glue e f = cc

word_kept : (t : Bool) (x : ℕ) → cond t 0 x ≡ cond (not t) x 0
word_kept true x = refl
word_kept false x = refl

-- the number of what is kept
number_of_volume : (t : Bool) (v : Hundredths) → (cond t v (volume 0)).0 ≡ cond t v.0 0
number_of_volume true v = refl
number_of_volume false v = refl

number_of_price : (t : Bool) (c : TenThousandths) → (cond t c (price 0)).0 ≡ cond t c.0 0
number_of_price true c = refl
number_of_price false c = refl

module _ (s : List ℕ) (h : is_good (fields_of s) ≡ true) where
  -- pair k, whose volume stands at byte i and whose price at byte j
  pair-kept : (k i j : ℕ) → width_at (fields_of s) k ≡ quad_at s i → price_at (fields_of s) k ≡ quad_at s j
      → let p = fields_of s in
      let t = ltb k p.steps in
      four_bytes (kept p p.widths (volume 0) k).0 ++ four_bytes (kept p p.prices (price 0) k).0 ≡ four s t i ++ four s t j
  pair-kept k i j e f =
      let p = fields_of s in
      let t = ltb k p.steps in
      rw (number_of_volume t (get_or p.widths k (volume 0)), number_of_price t (get_or p.prices k (price 0)), e, f)
      (glue (field-kept s t i (λ l. rw e at (width-bound p h k (ltb-true _ _ l))))
      (field-kept s t j (λ l. rw f at (price-range p h k (ltb-true _ _ l)).1)))

  bytes-kept : bytes_of (cleared (fields_of s)) ≡ table (read_byte s) record_length
  unfolding fields_of bytes_of eight_bytes byte_read cleared cycle_word
  bytes-kept =
      let n = numbers (fields_of s) h in
      let x : Bool = has_extra (fields_of s) in
      let e =
      glue (field-kept s true 0 (λ t. n.0))
      (glue (field-kept s true 4 (λ t. n.1))
      (glue (ap (λ (w : ℕ). get_or s 8 0 ∷ w ∷ []) (word_kept (ltb (get_or s 8 0) 2) (get_or s 9 0)))
      (glue (field-kept s x 10 (λ t. (n.2 t).0))
      (glue (field-kept s x 14 (λ t. (n.2 t).1))
      (glue (pair-kept 0 18 22 refl refl)
      (glue (pair-kept 1 26 30 refl refl)
      (glue (pair-kept 2 34 38 refl refl)
      (glue (pair-kept 3 42 46 refl refl)
      (glue (pair-kept 4 50 54 refl refl)
      (pair-kept 5 58 62 refl refl)))))))))) in
      e

-- read and then written
read-written : ReadWritten
read-written s out h m =
    let p = plan_in (read_of s) in
    let v : plan_refusal p ≡ Ok tt = rw (read-plan s h) (cleared-plan-refusal (fields_of s) ∙ read-refusal s h) in
    let w : write_answer p out ≡ Ok tt = judged p out m ∙ v in (
      w,
      λ i l.
          rw ((filled p out w).1, read-plan s h, cleared-again (fields_of s), bytes-kept s (fields-good s h))
          (table_at (read_byte s) record_length i l),
    )

pub round-trips : RoundTrips
round-trips = (written_read, read-written)
