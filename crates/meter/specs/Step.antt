-- Document 01, "Queries": the step query, on a meter within its bounds; on any other 0. Demand 3 speaks of its answer.
use Rattle.std.specs.Prelude.{Result}
use Rattle.refusal.specs.declared.Refusal.{Refusal}
use Rattle.refusal.specs.declared.Refusal.TheVariants.{OutOfBounds}
use Rattle.refusal.specs.Refusal.{need}
use Rattle.plan.specs.declared.StepPrice.{StepPrice}
use Rattle.slots.specs.World.{real}
use Rattle.slots.specs.Slots.{step_on}
use Rattle.state.specs.State.{State}
use Rattle.state.specs.Bounds.{bounded}

-- "the step in which the next hundredth falls on the clock's date, with its price"; "Step: 24, none in force"
unfoldable pub step_answer : State → Result StepPrice Refusal
step_answer m = need (bounded real m) OutOfBounds (step_on m.slots m.clock.date)
