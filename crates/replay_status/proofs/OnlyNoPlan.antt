-- Only no plan in force is refusal 24. Assumes nothing.
use mathlib.Core.Path.{◌≡◌, refl}
use mathlib.Core.Bool.{false}
use lib.Dec.{eqb}
use Rattle.refusal.specs.declared.Refusal.{Refusal}
use Rattle.refusal.specs.declared.Refusal.TheVariants.{NoPlan}
use Rattle.refusal.specs.Refusal.{number_of}

pub other_number : (n : Refusal) → (n ≡ NoPlan → ⊥) → eqb (number_of n) 24 ≡ false
other_number NoPlan h = absurd (h refl)
other_number n h = refl
