-- Clearing what is not read changes nothing that is read, so the refusals 2 to 7 say the same of the cleared plan. Assumes nothing.
use mathlib.Core.Path.{◌≡◌, refl}
use mathlib.Core.Bool.{Bool, true, false, cond}
use Prim.Native.Nat.{ℕ, zero, suc, ◌≤◌, ◌<◌}
use native.Mathlib.Omega.{arith}
use lib.Dec.{ltb}
use lib.ListN.{get_or}
use borrow.Author.Tests.{lt-ltb}
use Rattle.refusal.proofs.Tests.{cases}
use Rattle.units.specs.Volume.{volume, price}
use Rattle.plan.specs.declared.Plan.{Plan}
use Rattle.calendar.specs.declared.Cycle.{Cycle}
use Rattle.calendar.specs.declared.Cycle.TheVariants.{Window, Runs}
use Rattle.plan.specs.Plan.{most_steps, six, width_at, price_at, cycle_word, cycle, two_more, has_extra, kept, cleared}
use Rattle.plan.specs.Rules.{pair_good, has_price, extra_dates, extra_days, steps_good, word_good, numbers_good, dates_good, some_day, priced, plan_refusal, is_good}
use Rattle.plan.proofs.Every.{every-same}
use Rattle.plan.proofs.GoodPlan.{steps-most}

-- the cycle word as it is read
pub cleared-word : (p : Plan) → cycle_word (cleared p) ≡ cycle_word p
unfolding cycle_word cleared
cleared-word p = cases (ltb p.steps 2) (λ e. rw e) (λ e. rw e)

-- whether the two extra fields are read
pub cleared-extra : (p : Plan) → has_extra (cleared p) ≡ has_extra p
unfolding has_extra
cleared-extra p = rw (cleared-word p)

-- one of six
of-six : {A : Type 0} (f : ℕ → A) (d : A) (i : ℕ) → i < most_steps → get_or (six f) i d ≡ f i
of-six f d zero h = refl
of-six f d (suc zero) h = refl
of-six f d (suc (suc zero)) h = refl
of-six f d (suc (suc (suc zero))) h = refl
of-six f d (suc (suc (suc (suc zero)))) h = refl
of-six f d (suc (suc (suc (suc (suc zero))))) h = refl
of-six f d (suc (suc (suc (suc (suc (suc i)))))) h = absurd (omega arith)

module _ (p : Plan) (m : p.steps ≤ most_steps) (i : ℕ) (h : i < p.steps) where
  -- a width that is read
  cleared-width : width_at (cleared p) i ≡ width_at p i
  unfolding cleared
  cleared-width = rw (of-six (kept p p.widths (volume 0)) (volume 0) i (omega arith), lt-ltb i p.steps h)

  -- a price that is read
  cleared-price : price_at (cleared p) i ≡ price_at p i
  unfolding cleared
  cleared-price = rw (of-six (kept p p.prices (price 0)) (price 0) i (omega arith), lt-ltb i p.steps h)

-- what the cycle adds to the tests is asked of fields that are read
dates-kept : (c : Cycle) (p q : Plan)
    → q.extra_1 ≡ cond (two_more c) p.extra_1 0 → q.extra_2 ≡ cond (two_more c) p.extra_2 0 → extra_dates c q ≡ extra_dates c p
dates-kept Window p q e f = rw (e, f)
dates-kept Runs p q e f = rw e
dates-kept _ p q e f = refl

days-kept : (c : Cycle) (p q : Plan) → q.start ≡ p.start → q.end ≡ p.end
    → q.extra_1 ≡ cond (two_more c) p.extra_1 0 → q.extra_2 ≡ cond (two_more c) p.extra_2 0 → extra_days c q ≡ extra_days c p
days-kept Window p q s t e f = rw (s, t, e, f)
days-kept Runs p q s t e f = rw f
days-kept _ p q s t e f = refl

-- the tests of the refusals, one by one
module _ (p : Plan) where
  steps-same : steps_good (cleared p) ≡ steps_good p
  unfolding steps_good cleared
  steps-same = refl

  word_same : word_good (cleared p) ≡ word_good p
  unfolding word_good cleared cycle_word
  word_same = cases (ltb p.steps 2) (λ e. rw e) (λ e. rw e)

  numbers-same : p.steps ≤ most_steps → numbers_good (cleared p) ≡ numbers_good p
  unfolding numbers_good cleared
  numbers-same m =
      rw (
        cleared-extra p,
        every-same (pair_good (cleared p)) (pair_good p) p.steps (λ j k. rw (cleared-width p m j k, cleared-price p m j k)),
      )
      (cases (has_extra p) (λ e. rw e) (λ e. rw e))

  dates-same : dates_good (cleared p) ≡ dates_good p
  unfolding dates_good has_extra cleared
  dates-same = rw (cleared-word p, dates-kept (cycle p) p (cleared p) refl refl)

  days-same : some_day (cleared p) ≡ some_day p
  unfolding some_day has_extra cleared
  days-same = rw (cleared-word p, days-kept (cycle p) p (cleared p) refl refl refl refl)

  prices-same : p.steps ≤ most_steps → priced (cleared p) ≡ priced p
  unfolding priced cleared
  prices-same m = every-same (has_price (cleared p)) (has_price p) p.steps (λ j k. rw (cleared-price p m j k))

  -- what refuses the plan
  pub cleared-plan-refusal : plan_refusal (cleared p) ≡ plan_refusal p
  unfolding plan_refusal
  cleared-plan-refusal =
      cases (steps_good p)
      (λ e. let m = steps-most p e in rw (steps-same, word_same, numbers-same m, dates-same, days-same, prices-same m))
      (λ e. rw (steps-same, e))

  -- whether nothing does
  pub cleared-good : is_good (cleared p) ≡ is_good p
  unfolding is_good
  cleared-good = rw cleared-plan-refusal

-- a field that is put to zero once more
twice : {A : Type 0} (b : Bool) (x y : A) → cond b (cond b x y) y ≡ cond b x y
twice true x y = refl
twice false x y = refl

-- clearing again changes nothing
pub cleared-again : (p : Plan) → cleared (cleared p) ≡ cleared p
unfolding cleared
cleared-again p = simp (cleared-word p, cleared-extra p, twice)
