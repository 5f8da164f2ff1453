-- Which plan is in force, by its slot.
use mathlib.Core.Path.{◌≡◌, refl, sym, ap, ◌∙◌, subst}
use mathlib.Core.Bool.{true, false, ◌||◌}
use Prim.Native.Nat.{ℕ}
use native.Mathlib.Omega.{arith}
use lib.Dec.{eqb}
use borrow.Author.Tests.{not-true}
use Rattle.std.specs.Prelude.{Option, None, Some, is_some}
use Rattle.refusal.proofs.Tests.{cases, never, and_left, and_right}
use Rattle.plan.specs.declared.Plan.{Plan}
use Rattle.slots.specs.declared.Slot.{Slot}
use Rattle.slots.specs.declared.Slots.{Slots}
use Rattle.slots.specs.declared.SlotName.{SlotName}
use Rattle.slots.specs.declared.SlotName.TheVariants.{One, Two}
use Rattle.slots.specs.declared.SlotInForce.{SlotInForce}
use Rattle.slots.specs.World.{World}
use Rattle.slots.specs.Laws.{Billing}
use Rattle.slots.specs.Slots.{slot_at, loaded_in_force, slot_on, in_force_on, plan_at, plan_on, any_in_force, charge_on, same_cycle, keeps_usage}
use Rattle.slots.specs.Load.{slot_both_in_force}
use Rattle.slots.specs.Bounds.{slot_good, never_both, BothGood}

module _ (w : World) where
  -- what the slots say of the plan in force
  pub plan-one : (s : Slots) (d : ℕ) → loaded_in_force w s.slot_1 d ≡ true → plan_on w s d ≡ Some s.slot_1.plan
  unfolding plan_on slot_on
  plan-one s d h = rw h

  pub plan-two : (s : Slots) (d : ℕ) → loaded_in_force w s.slot_1 d ≡ false → loaded_in_force w s.slot_2 d ≡ true → plan_on w s d ≡ Some s.slot_2.plan
  unfolding plan_on slot_on
  plan-two s d h i = rw (h, i)

  pub plan-none : (s : Slots) (d : ℕ) → loaded_in_force w s.slot_1 d ≡ false → loaded_in_force w s.slot_2 d ≡ false → plan_on w s d ≡ None
  unfolding plan_on slot_on
  plan-none s d h i = rw (h, i)

  pub any_in_force_is : (s : Slots) (d : ℕ) → any_in_force w s d ≡ (loaded_in_force w s.slot_1 d || loaded_in_force w s.slot_2 d)
  unfolding any_in_force plan_on slot_on
  any_in_force_is s d = cases (loaded_in_force w s.slot_1 d) (λ a. rw a) (λ a. cases (loaded_in_force w s.slot_2 d) (λ b. rw (a, b)) (λ b. rw (a, b)))

  pub no-plan : (s : Slots) (d : ℕ) → any_in_force w s d ≡ false → plan_on w s d ≡ None
  unfolding any_in_force
  no-plan s d h = go (plan_on w s d) h
    where
      go : (o : Option Plan) → is_some o ≡ false → o ≡ None
      go None e = refl
      go (Some p) e = absurd (never refl e)

  -- what is told of a date whose slot is known
  pub its-date : (s : Slots) {f : SlotInForce} {d : ℕ} → f ≡ in_force_on w s d → f.date ≡ d
  its-date s e = ap (λ (x : SlotInForce). x.date) e

  pub its-slot : (s : Slots) {f : SlotInForce} {d : ℕ} → f ≡ in_force_on w s d → f.slot ≡ slot_on w s d
  its-slot s e = ap (λ (x : SlotInForce). x.slot) e

  pub its_own : (s : Slots) {f : SlotInForce} {d : ℕ} → f ≡ in_force_on w s d → f ≡ in_force_on w s f.date
  its_own s e = e ∙ sym (ap (in_force_on w s) (its-date s e))

  pub its-some : (s : Slots) {f : SlotInForce} {d : ℕ} → f ≡ in_force_on w s d → is_some f.slot ≡ any_in_force w s d
  unfolding any_in_force plan_on
  its-some s {f} {d} e = ap is_some (its-slot s e) ∙ go (slot_on w s d)
    where
      go : (o : Option SlotName) → is_some o ≡ is_some (plan_at s o)
      go None = refl
      go (Some k) = refl

  -- slot k in force on a date
  module _ (s : Slots) (d : ℕ) (k : SlotName) (on : slot_on w s d ≡ Some k) where
    pub in-slot : loaded_in_force w (slot_at s k) d ≡ true
    unfolding slot_on
    in-slot = cases (loaded_in_force w s.slot_1 d) (λ a. its One (rw a at on) a)
        (λ a. cases (loaded_in_force w s.slot_2 d) (λ b. its Two (rw (a, b) at on) b) (λ b. let e = rw (a, b) at on in cc))
      where
        its : (i : SlotName) → Some i ≡ Some k → loaded_in_force w (slot_at s i) d ≡ true → loaded_in_force w (slot_at s k) d ≡ true
        its i e h = let n : i ≡ k = cc in subst (λ (j : SlotName). loaded_in_force w (slot_at s j) d ≡ true) n h

    pub plan-at : plan_on w s d ≡ Some (slot_at s k).plan
    unfolding plan_on
    plan-at = rw on

    pub in-force-at : w.in_force (slot_at s k).plan d ≡ true
    unfolding loaded_in_force
    in-force-at = and_right (slot_at s k).loaded _ in-slot

    pub some_at : any_in_force w s d ≡ true
    unfolding any_in_force
    some_at = rw plan-at

    pub charge-at : (v : ℕ) → charge_on w s d v ≡ w.charge (slot_at s k).plan v
    unfolding charge_on
    charge-at v = rw plan-at

    -- it is a plan that refusals 2 to 7 let pass
    pub good-at : BothGood w s → w.good (slot_at s k).plan ≡ true
    unfolding slot_good loaded_in_force
    good-at g = rw (and_left (slot_at s k).loaded _ in-slot) at (go k)
      where
        go : (i : SlotName) → slot_good w (slot_at s i) ≡ true
        go One = g.slot_1
        go Two = g.slot_2

  pub none-at : (s : Slots) (d : ℕ) → slot_on w s d ≡ None → plan_on w s d ≡ None
  unfolding plan_on
  none-at s d h = rw h

  -- plans never both in force from a date on are not so on it
  pub not-both : Billing w → (s : Slots) (d : ℕ) → never_both w s.slot_1 s.slot_2 d ≡ true → loaded_in_force w s.slot_1 d ≡ true → loaded_in_force w s.slot_2 d ≡ true → ⊥
  unfolding never_both slot_both_in_force loaded_in_force
  not-both L s d h a b =
      let p = and_left s.slot_1.loaded _ a in
      let q = and_left s.slot_2.loaded _ b in
      L.never-both-from s.slot_1.plan s.slot_2.plan d d (not-true (w.both_in_force s.slot_1.plan s.slot_2.plan d) (rw (p, q) at h)) (omega arith)
      (and_right s.slot_1.loaded _ a) (and_right s.slot_2.loaded _ b)

  -- usage is kept where one plan is in force on both dates, in one of its cycles
  pub kept_same : (s : Slots) (from to : ℕ) (k : SlotName) → slot_on w s from ≡ Some k → slot_on w s to ≡ Some k →
      keeps_usage w s from to ≡ eqb (w.cycle (slot_at s k).plan from) (w.cycle (slot_at s k).plan to)
  unfolding keeps_usage
  kept_same s from to k f t = rw (plan-at s to k t, in-force-at s from k f)

  pub kept-none : (s : Slots) (from to : ℕ) → slot_on w s to ≡ None → keeps_usage w s from to ≡ false
  unfolding keeps_usage
  kept-none s from to h = rw (none-at s to h)

  -- and under two plans it is not
  slot-one : (s : Slots) (d : ℕ) → loaded_in_force w s.slot_1 d ≡ true → slot_on w s d ≡ Some One
  unfolding slot_on
  slot-one s d f = rw f

  slot-two : (s : Slots) (d : ℕ) → loaded_in_force w s.slot_2 d ≡ true → loaded_in_force w s.slot_1 d ≡ false → slot_on w s d ≡ Some Two
  unfolding slot_on
  slot-two s d f g = rw (g, f)

  not-before : (a : Slot) (from to : ℕ) → loaded_in_force w a to ≡ true → (loaded_in_force w a from ≡ true → ⊥) → same_cycle w (Some a.plan) from to ≡ false
  unfolding loaded_in_force
  not-before a from to t g = cases (w.in_force a.plan from) (λ f. absurd (g (rw (and_left a.loaded _ t) f))) (λ f. rw f)

  pub kept-other : Billing w → (s : Slots) (from to : ℕ) → never_both w s.slot_1 s.slot_2 from ≡ true → (slot_on w s from ≡ slot_on w s to → ⊥) →
      keeps_usage w s from to ≡ false
  unfolding keeps_usage
  kept-other L s from to h n = cases (loaded_in_force w s.slot_1 to)
      (λ t. rw (plan-one s to t) (not-before s.slot_1 from to t (λ f. n (slot-one s from f ∙ sym (slot-one s to t)))))
      (λ t. cases (loaded_in_force w s.slot_2 to)
      (λ u. rw (plan-two s to t u) (not-before s.slot_2 from to u (λ f. n (slot-two s from f (alone f) ∙ sym (slot-two s to u t)))))
      (λ u. rw (plan-none s to t u)))
    where
      alone : loaded_in_force w s.slot_2 from ≡ true → loaded_in_force w s.slot_1 from ≡ false
      alone f = cases (loaded_in_force w s.slot_1 from) (λ g. absurd (not-both L s from h g f)) (λ g. g)
