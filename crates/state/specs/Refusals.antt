-- Document 01, "Refusal by operation": what every call is refused by, and what pulses and the key are refused by. A refusal is looked for
-- on the meter as handed in, before the day is turned.
use Rattle.std.specs.Prelude.{Bool, ◌&&◌, ℕ, ◌+◌, leb, pos, Result, Ok, ⊤}
use Rattle.std.specs.Int.Signed.{lt_z}
use Rattle.units.specs.Volume.{highest_total}
use Rattle.refusal.specs.declared.Refusal.{Refusal}
use Rattle.refusal.specs.declared.Refusal.TheVariants.{OutOfBounds, Stamp as BadStamp, Earlier, Pulses, Total}
use Rattle.refusal.specs.Refusal.{need}
use Rattle.calendar.specs.declared.Stamp.{Stamp}
use Rattle.calendar.specs.Stamp.{not_before}
use Rattle.slots.specs.World.{World}
use Rattle.slots.specs.Slots.{any_in_force}
use Rattle.state.specs.declared.Volumes.{Volumes}
use Rattle.state.specs.State.{State}
use Rattle.state.specs.Bounds.{bounded, stamp_good}

-- "0, the meter handed in breaks its bounds; 8, bad date or second; 9, stamp before the last accepted one. These come in this order
-- before the call's own."
unfoldable pub stamp_refusal : World → State → Stamp → Result ⊤ Refusal
stamp_refusal w m s = need (bounded w m) OutOfBounds (need (stamp_good w s) BadStamp (need (not_before m.clock s) Earlier (Ok tt)))

-- "Pulses: 13, more than 65,535; 14, total would pass 99,999,999."
abbrev pub most_pulses : ℕ
most_pulses = 65535

unfoldable pub pulse_refusal : Volumes → ℕ → Result ⊤ Refusal
pulse_refusal v n = need (leb n most_pulses) Pulses (need (leb (v.total.0 + n) highest_total) Total (Ok tt))

-- "Key: 22, mark "forbid", balance not above zero, or no plan in force on the stamp's date."
unfoldable pub key_allowed : World → State → ℕ → Bool
key_allowed w m d = m.valve.allow && (lt_z (pos 0) m.account.balance.0 && any_in_force w m.slots d)
