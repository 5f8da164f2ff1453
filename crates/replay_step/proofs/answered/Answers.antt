-- A line that says nothing is answered with no text.
use Rattle.std.proofs.Common.{arith, refl}
use Rattle.text.proofs.Behind.{nothing, within}
use Rattle.replay_step.specs.ReplayStep.{ReplyIs}
use Rattle.replay_step.proofs.CallThenText.{answer}
use Rattle.replay_step.proofs.answered.Goals as goal

pub returns-in-Ok-Nothing : goal.returns-in-Ok-Nothing
unfolding ReplyIs
returns-in-Ok-Nothing c =
    let request = rw c.in-Ok-Nothing.is at c.in-Ok-Nothing.field-0-is in
    rw (c.in-Ok-Nothing.is, request) (answer (within refl (omega arith) (nothing c.args.out.now)) refl)
