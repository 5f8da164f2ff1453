-- Document 01, "Queries": "Day or month record k, newest first from 0. A held day record whose volume is at least a given one: which
-- such day is left free."
use Rattle.std.specs.Prelude.{◌≡◌, List, [], ◌∷◌, ℕ, zero, suc, ◌≤◌, ◌<◌, length, get_or, Result, Ok, Err}
use Rattle.refusal.specs.declared.Refusal.{Refusal}
use Rattle.refusal.specs.declared.Refusal.TheVariants.{NotHeld, NoHeavyDay}
use Rattle.records.specs.declared.Record.{Record}
use Rattle.records.specs.declared.PlacedRecord.{PlacedRecord}
use Rattle.records.specs.Records.{no_record}

-- "Record k: 25, not held."
unfoldable pub fetched : List Record → ℕ → Result Record Refusal
fetched [] k = Err NotHeld
fetched (r ∷ rs) zero = Ok r
fetched (r ∷ rs) (suc k) = fetched rs k

-- what stands where no placed record is answered
abbrev pub no_place : PlacedRecord
no_place = record { place = 0; held = no_record }

-- day k is held, and its volume is at least v
pub record IsHeavy (ds : List Record) (v k : ℕ) : Type 0 where
  pub held : k < length ds
  pub enough : v ≤ (get_or ds k no_record).volume.0

-- "Heavy day: 27, exactly if no held day qualifies." The day that is named is held and heavy enough; which one is left free.
abbrev pub HeavyDay : List Record → ℕ → Result PlacedRecord Refusal → Type 0
HeavyDay ds v (Ok d) = IsHeavy ds v d.place × (d.held ≡ get_or ds d.place no_record)
HeavyDay ds v (Err n) = (n ≡ NoHeavyDay) × ((k : ℕ) → IsHeavy ds v k → ⊥)
