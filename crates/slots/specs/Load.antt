-- Document 01, "Load": "10, slot not 1 or 2; 1 to 7; 11, the slot's plan is in force on the stamp's date; 12, a date on or after it is
-- in force under both this plan and the other slot's".
use Rattle.std.specs.Prelude.{Bool, true, cond, not, ◌&&◌, ◌||◌, ℕ, eqb, Result, Ok, ⊤}
use Rattle.refusal.specs.declared.Refusal.{Refusal}
use Rattle.refusal.specs.declared.Refusal.TheVariants.{Slot as NoSlot, InForce, Overlap}
use Rattle.refusal.specs.Refusal.{need}
use Rattle.plan.specs.declared.Plan.{Plan}
use Rattle.plan_record.specs.Choice.{of_plan}
use Rattle.slots.specs.declared.Slot.{Slot}
use Rattle.slots.specs.declared.Slots.{Slots}
use Rattle.slots.specs.declared.SlotName.{SlotName}
use Rattle.slots.specs.declared.SlotName.TheVariants.{One, Two}
use Rattle.slots.specs.World.{World}
use Rattle.slots.specs.Slots.{by_slot, slot_at, loaded_in_force}

-- the slot by its number, 1 or 2; and refusal 10 of any other
abbrev pub slot_named : ℕ → SlotName
slot_named k = cond (eqb k 1) One Two

abbrev pub is_slot : ℕ → Bool
is_slot k = eqb k 1 || eqb k 2

abbrev pub named : {T : Type 0} → ℕ → Result T Refusal → Result T Refusal
named k rest = need (is_slot k) NoSlot rest

-- the slot that is not slot k
abbrev pub other_at : Slots → SlotName → Slot
other_at s k = by_slot k s.slot_2 s.slot_1

-- a date on or after d is in force under both the slot's plan and p
unfoldable pub slot_both_in_force : World → Slot → Plan → ℕ → Bool
slot_both_in_force w s p d = s.loaded && w.both_in_force s.plan p d

-- of a plan that was read
unfoldable pub in_force_refusal : World → Slots → ℕ → SlotName → Plan → Result ⊤ Refusal
in_force_refusal w s d k p =
    need (not (loaded_in_force w (slot_at s k) d)) InForce
    (need (not (slot_both_in_force w (other_at s k) p d)) Overlap (Ok tt))

unfoldable pub load_refusal : World → Slots → ℕ → ℕ → Result Plan Refusal → Result ⊤ Refusal
load_refusal w s d k r = named k (of_plan r (in_force_refusal w s d (slot_named k)))

abbrev pub holding : Plan → Slot
holding p = record { loaded = true; plan = p }

-- "Plan: slot replaced"
unfoldable pub loaded : Slots → SlotName → Plan → Slots
loaded s k p = record { slot_1 = by_slot k (holding p) s.slot_1; slot_2 = by_slot k s.slot_2 (holding p); usage = s.usage }
