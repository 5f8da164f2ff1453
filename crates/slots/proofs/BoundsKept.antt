-- The bounds of the slots by their parts, both ways, and that the turn of the day, pulses and a load keep them. Shown of any world that
-- keeps the laws.
use mathlib.Core.Path.{◌≡◌, refl, sym, ◌∙◌}
use mathlib.Core.Bool.{Bool, true, false, cond}
use Prim.Native.Nat.{ℕ, ◌+◌, ◌*◌, ◌≤◌}
use native.Mathlib.Omega.{arith}
use borrow.Author.Tests.{leb-true, le-leb, eqb-true, eq-eqb, not-true}
use Rattle.units.specs.Volume.{highest_price}
use Rattle.std.specs.Prelude.{Result, Ok, Err}
use Rattle.refusal.specs.declared.Refusal.{Refusal}
use Rattle.refusal.specs.declared.Refusal.TheVariants.{Slot as NoSlot, InForce, Overlap}
use Rattle.refusal.proofs.Tests.{cases, split, and_left, or_left, or_right, neither, need-both}
use Rattle.plan.specs.declared.Plan.{Plan}
use Rattle.plan_record.specs.PlanRecord.{plan_in}
use Rattle.plan_record.specs.Choice.{of_plan}
use Rattle.slots.specs.declared.Slot.{Slot}
use Rattle.slots.specs.declared.Slots.{Slots}
use Rattle.slots.specs.declared.SlotName.{SlotName}
use Rattle.slots.specs.declared.SlotName.TheVariants.{One, Two}
use Rattle.slots.specs.World.{World}
use Rattle.slots.specs.Laws.{Laws}
use Rattle.slots.specs.Slots.{slot_at, loaded_in_force, plan_on, slot_on, any_in_force, charge_on, added_charge, used, keeps_usage, usage_on, slots_turned}
use Rattle.slots.specs.Load.{is_slot, slot_named, other_at, holding, slot_both_in_force, in_force_refusal, load_refusal, loaded}
use Rattle.slots.specs.Bounds.{slot_good, never_both, slots_good, without_plan_good, is_fresh_slots, BothGood}
use Rattle.slots.proofs.InForce.{any_in_force_is, no-plan, plan-one, plan-two, plan-none}

module _ (w : World) where
  -- the bounds in parts
  pub record SlotBounds (s : Slots) (d total : ℕ) : Type 0 where
    pub good : BothGood w s
    pub never_both : never_both w s.slot_1 s.slot_2 d ≡ true
    pub usage : s.usage.0 ≤ total

  pub slots-in : (s : Slots) (d total : ℕ) → slots_good w s d total ≡ true → SlotBounds s d total
  unfolding slots_good
  slots-in s d total h =
      let a = split h in
      let b = split a.1 in
      let c = split b.1 in
      record { good = record { slot_1 = a.0; slot_2 = b.0 }; never_both = c.0; usage = leb-true _ _ c.1 }

  pub slots-out : (s : Slots) (d total : ℕ) → SlotBounds s d total → slots_good w s d total ≡ true
  unfolding slots_good
  slots-out s d total a = rw (a.good.slot_1, a.good.slot_2, a.never_both, le-leb _ _ a.usage)

  -- with no plan in force the usage is 0 and the valve closed
  pub without-plan-in : (s : Slots) (opened : Bool) (d : ℕ) → without_plan_good w s opened d ≡ true → any_in_force w s d ≡ false → (s.usage.0 ≡ 0) × (opened ≡ false)
  unfolding without_plan_good
  without-plan-in s opened d i h = let k = split (rw h at i) in (eqb-true _ _ k.0, not-true opened k.1)

  pub without-plan-out : (s : Slots) (opened : Bool) (d : ℕ) → (any_in_force w s d ≡ false → (s.usage.0 ≡ 0) × (opened ≡ false)) → without_plan_good w s opened d ≡ true
  unfolding without_plan_good
  without-plan-out s opened d h = cases (any_in_force w s d) (λ t. rw t) (λ t. rw (t, eq-eqb _ _ (h t).0, (h t).1))

  -- neither slot's plan is in force
  pub none-one : (s : Slots) (d : ℕ) → any_in_force w s d ≡ false → loaded_in_force w s.slot_1 d ≡ false
  none-one s d h = or_left _ (loaded_in_force w s.slot_2 d) (sym (any_in_force_is w s d) ∙ h)

  pub none-two : (s : Slots) (d : ℕ) → any_in_force w s d ≡ false → loaded_in_force w s.slot_2 d ≡ false
  none-two s d h = or_right (loaded_in_force w s.slot_1 d) _ (sym (any_in_force_is w s d) ∙ h)

  pub both-none : (s : Slots) (d : ℕ) → loaded_in_force w s.slot_1 d ≡ false → loaded_in_force w s.slot_2 d ≡ false → any_in_force w s d ≡ false
  both-none s d h i = any_in_force_is w s d ∙ neither _ _ h i

  -- fresh slots
  pub record Unloaded (s : Slots) : Type 0 where
    pub slot_1 : s.slot_1.loaded ≡ false
    pub slot_2 : s.slot_2.loaded ≡ false
    pub usage : s.usage.0 ≡ 0

  pub unloaded : (s : Slots) → is_fresh_slots s ≡ true → Unloaded s
  unfolding is_fresh_slots
  unloaded s h =
      let a = split h in
      let b = split a.1 in
      record { slot_1 = not-true _ a.0; slot_2 = not-true _ b.0; usage = eqb-true _ _ b.1 }

  pub fresh-slots : (s : Slots) (d total : ℕ) → is_fresh_slots s ≡ true → slots_good w s d total ≡ true
  unfolding slots_good slot_good never_both
  fresh-slots s d total h = let u = unloaded s h in rw (u.slot_1, u.slot_2, le-leb s.usage.0 total (omega (arith, u.usage)))

  -- the turn and pulses leave the plans
  pub in-force-turned : (s : Slots) (d e f : ℕ) → any_in_force w (slots_turned w s d e) f ≡ any_in_force w s f
  unfolding any_in_force plan_on slot_on slots_turned
  in-force-turned s d e f = refl

  pub in-force-used : (s : Slots) (b : Bool) (n d : ℕ) → any_in_force w (used s b n) d ≡ any_in_force w s d
  unfolding any_in_force plan_on slot_on used
  in-force-used s b n d = refl

  pub no-usage : (s : Slots) (d e : ℕ) → any_in_force w s e ≡ false → (slots_turned w s d e).usage.0 ≡ 0
  unfolding slots_turned usage_on keeps_usage
  no-usage s d e h = rw (no-plan w s e h)

  used_low : (b : Bool) (u n total : ℕ) → u ≤ total → cond b (u + n) u ≤ total + n
  used_low true u n total h = omega arith
  used_low false u n total h = omega arith

  pub slots-used : (s : Slots) (b : Bool) (d n total : ℕ) → SlotBounds s d total → SlotBounds (used s b n) d (total + n)
  unfolding used
  slots-used s b d n total a = record { good = record { slot_1 = a.good.slot_1; slot_2 = a.good.slot_2 }; never_both = a.never_both; usage = used_low b s.usage.0 n total a.usage }

  -- a load: the slot's old plan is not in force on the date, and the new one and the other slot's never both from it on
  pub record MayLoad (s : Slots) (d : ℕ) (k : SlotName) (p : Plan) : Type 0 where
    pub free : loaded_in_force w (slot_at s k) d ≡ false
    pub alone : slot_both_in_force w (other_at s k) p d ≡ false

  pub may_load : (s : Slots) (d : ℕ) (k : SlotName) (p : Plan) → in_force_refusal w s d k p ≡ Ok tt → MayLoad s d k p
  unfolding in_force_refusal
  may_load s d k p h =
      let a = need-both InForce h in
      record { free = not-true _ a.0; alone = not-true _ (need-both Overlap {a = Ok tt} a.1).0 }

  -- of a slot by its number and of a plan that was read
  pub record Loads (s : Slots) (d k : ℕ) (r : Result Plan Refusal) : Type 0 where
    pub slot : is_slot k ≡ true
    pub read : r ≡ Ok (plan_in r)
    pub may_load : MayLoad s d (slot_named k) (plan_in r)

  pub loads : (s : Slots) (d k : ℕ) (r : Result Plan Refusal) → load_refusal w s d k r ≡ Ok tt → Loads s d k r
  unfolding load_refusal
  loads s d k r h = let n = need-both {b = is_slot k} NoSlot h in go r n.1 n.0
    where
      go : (r : Result Plan Refusal) → of_plan r (in_force_refusal w s d (slot_named k)) ≡ Ok tt → is_slot k ≡ true → Loads s d k r
      go (Ok p) h n = record { slot = n; read = refl; may_load = may_load s d (slot_named k) p h }
      go (Err n) h _ = cc

module _ (w : World) (L : Laws w) where
  -- the turn
  never-both-later : (a b : Slot) (d e : ℕ) → d ≤ e → never_both w a b d ≡ true → never_both w a b e ≡ true
  unfolding never_both slot_both_in_force
  never-both-later a b d e h k = cases b.loaded
      (λ i. rw i (cases a.loaded
      (λ j. rw j (rw (L.not-both-later a.plan b.plan d e h (not-true _ (rw (i, j) at k)))))
      (λ j. rw j)))
      (λ i. rw i)

  kept_low : (b : Bool) (u total : ℕ) → u ≤ total → cond b u 0 ≤ total
  kept_low true u total h = h
  kept_low false u total h = omega arith

  pub slots-turned : (s : Slots) (d e total : ℕ) → d ≤ e → SlotBounds w s d total → SlotBounds w (slots_turned w s d e) e total
  unfolding slots_turned usage_on
  slots-turned s d e total h a = record {
    good = record { slot_1 = a.good.slot_1; slot_2 = a.good.slot_2 };
    never_both = never-both-later s.slot_1 s.slot_2 d e h a.never_both;
    usage = kept_low (keeps_usage w s d e) s.usage.0 total a.usage;
  }

  -- n pulses are charged at most the highest price for each
  slot-cap : (s : Slot) (d u n : ℕ) → slot_good w s ≡ true → loaded_in_force w s d ≡ true → w.charge s.plan (u + n) ≤ w.charge s.plan u + n * highest_price
  unfolding slot_good loaded_in_force
  slot-cap s d u n h i = L.charge-cap s.plan u n (rw (and_left s.loaded _ i) at h)

  pub added-charge-cap : (s : Slots) (d total n : ℕ) → SlotBounds w s d total → added_charge w s d n ≤ n * highest_price
  unfolding added_charge charge_on
  added-charge-cap s d total n a = cases (loaded_in_force w s.slot_1 d)
      (λ i. rw (plan-one w s d i) (omega (arith, slot-cap s.slot_1 d s.usage.0 n a.good.slot_1 i)))
      (λ i. cases (loaded_in_force w s.slot_2 d)
      (λ j. rw (plan-two w s d i j) (omega (arith, slot-cap s.slot_2 d s.usage.0 n a.good.slot_2 j)))
      (λ j. rw (plan-none w s d i j) (omega arith)))

  -- a load
  slot_held : (p : Plan) → w.good p ≡ true → slot_good w (holding p) ≡ true
  unfolding slot_good
  slot_held p h = h

  never-both-first : (s : Slot) (p : Plan) (d : ℕ) → slot_both_in_force w s p d ≡ false → never_both w (holding p) s d ≡ true
  unfolding never_both slot_both_in_force
  never-both-first s p d h = cases s.loaded (λ l. rw (l, L.not-both-swapped s.plan p d (rw l at h))) (λ l. rw l)

  never-both-second : (s : Slot) (p : Plan) (d : ℕ) → slot_both_in_force w s p d ≡ false → never_both w s (holding p) d ≡ true
  unfolding never_both
  never-both-second s p d h = rw h

  pub slots-loaded :
      (s : Slots) (d total : ℕ) (k : SlotName) (p : Plan) → MayLoad w s d k p → w.good p ≡ true → SlotBounds w s d total →
      SlotBounds w (loaded s k p) d total
  unfolding loaded
  slots-loaded s d total One p l y a =
      record { good = record { slot_1 = slot_held p y; slot_2 = a.good.slot_2 }; never_both = never-both-first s.slot_2 p d l.alone; usage = a.usage }
  slots-loaded s d total Two p l y a =
      record { good = record { slot_1 = a.good.slot_1; slot_2 = slot_held p y }; never_both = never-both-second s.slot_1 p d l.alone; usage = a.usage }

  -- none is in force after it only where none was before it
  pub none-loaded :
      (s : Slots) (d : ℕ) (k : SlotName) (p : Plan) → MayLoad w s d k p → any_in_force w (loaded s k p) d ≡ false → any_in_force w s d ≡ false
  unfolding loaded
  none-loaded s d One p l f = both-none w s d l.free (none-two w _ d f)
  none-loaded s d Two p l f = both-none w s d (none-one w _ d f) l.free
