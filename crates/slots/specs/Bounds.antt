-- Document 01, "Bounds of a meter": "loaded plans are as the refusals allow, no date from the clock's on has both plans in force",
-- usage at most the total.
use Rattle.std.specs.Prelude.{◌≡◌, Bool, true, cond, not, ◌&&◌, ◌||◌, ℕ, leb, eqb}
use Rattle.slots.specs.declared.Slot.{Slot}
use Rattle.slots.specs.declared.Slots.{Slots}
use Rattle.slots.specs.declared.SlotInForce.{SlotInForce}
use Rattle.slots.specs.World.{World, real}
use Rattle.slots.specs.Load.{slot_both_in_force}
use Rattle.slots.specs.Slots.{any_in_force, in_force_on}

unfoldable pub slot_good : World → Slot → Bool
slot_good w s = cond s.loaded (w.good s.plan) true

-- no date from d on has both plans in force
unfoldable pub never_both : World → Slot → Slot → ℕ → Bool
never_both w a b d = not (b.loaded && slot_both_in_force w a b.plan d)

unfoldable pub slots_good : World → Slots → ℕ → ℕ → Bool
slots_good w s d total =
    slot_good w s.slot_1 && (slot_good w s.slot_2 && (never_both w s.slot_1 s.slot_2 d && leb s.usage.0 total))

-- "usage 0 and valve closed with no plan in force on the clock's date"
unfoldable pub without_plan_good : World → Slots → Bool → ℕ → Bool
without_plan_good w s opened d = any_in_force w s d || (eqb s.usage.0 0 && not opened)

-- of a fresh meter: no plan, usage 0
unfoldable pub is_fresh_slots : Slots → Bool
is_fresh_slots s = not s.slot_1.loaded && (not s.slot_2.loaded && eqb s.usage.0 0)

-- both slots good
pub record BothGood (w : World) (s : Slots) : Type 0 where
  pub slot_1 : slot_good w s.slot_1 ≡ true
  pub slot_2 : slot_good w s.slot_2 ≡ true

-- what the turn from one date to a later one may rely on: the slots never both in force, and the slot in force on each of the two dates
pub record MayTurn (s : Slots) (was is : SlotInForce) : Type 0 where
  pub never_both : never_both real s.slot_1 s.slot_2 was.date ≡ true
  pub old : was ≡ in_force_on real s was.date
  pub new : is ≡ in_force_on real s is.date
