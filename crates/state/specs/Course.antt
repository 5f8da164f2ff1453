-- The course of a call inside the code: what `Registers::run` promises of any test and any effect.
use Rattle.std.specs.Prelude.{◌≡◌, List, ℕ, Result, Ok, Err, MatchResult}
use Rattle.calendar.specs.declared.Stamp.{Stamp}
use Rattle.refusal.specs.declared.Refusal.{Refusal}
use Rattle.slots.specs.World.{real}
use Rattle.state.specs.declared.Registers.{Registers}
use Rattle.state.specs.declared.RegistersAndCodes.{RegistersAndCodes}
use Rattle.state.specs.State.{state_of}
use Rattle.state.specs.Turn.{Turned}
use Rattle.state.specs.Refusals.{stamp_refusal}

-- `own` holds of what a call's own test may tell, `effect` of turned registers, of what was told, and of what the call may make of the two.
-- Checked: the stamp admitted, x told by the call's own test, and the day turned.
pub record Checked {T : Type 0} (r : Registers) (h : List ℕ) (s : Stamp) (own : Result T Refusal → Type 0) (x : T) (t : RegistersAndCodes) (words : List ℕ) : Type 0 where
  pub stamp : stamp_refusal real (state_of r h) s ≡ Ok tt
  pub told : own (Ok x)
  pub turned : Turned r h s t words

-- checked, and its effect; or refused by its stamp or by its own test, and the words stand
abbrev pub Ran : {T A : Type 0} → Registers → List ℕ → Stamp → (Result T Refusal → Type 0) → (RegistersAndCodes → T → A → Type 0) → Result A Refusal → List ℕ → Type 0
Ran {T} r h s own effect (Ok a) words = (x : T) × (t : RegistersAndCodes) × Checked r h s own x t words × effect t x a
Ran r h s own effect (Err n) words = (words ≡ h) × MatchResult (stamp_refusal real (state_of r h) s) (λ _. own (Err n)) (λ i. n ≡ i)
