-- The calendar, the plans and the charge of document 01 keep the laws on which demand 3 rests.
use mathlib.Core.Path.{refl, ◌∙◌}
use Rattle.plan.proofs.Charge.{charge-zero, charge-rises, charge-cap}
use Rattle.plan.proofs.DaysInForce.{convex, never-both-from, not-both-later, both-in-force-sym}
use Rattle.plan.proofs.Cycles.{cycle-rises}
use Rattle.calendar.specs.Date.{is_date}
use Rattle.slots.specs.World.{real}
use Rattle.slots.specs.Laws.{Laws}
use Rattle.plan_record.proofs.RecordRead.{read-good}

-- what a charge needs of them
pub ruleset rising = (charge-rises)

pub real-laws : Laws real
unfolding is_date
real-laws = record {
  billing = record {
    charge-zero = charge-zero;
    charge-rises = charge-rises;
    convex = convex;
    cycle-rises = cycle-rises;
    never-both-from = never-both-from;
  };
  charge-cap = charge-cap;
  not-both-later = not-both-later;
  not-both-swapped = λ p q d h. both-in-force-sym q p d ∙ h;
  no-date = refl;
  read-good = read-good;
}
