-- The price is put behind the number.
use Rattle.std.proofs.Common.{arith, append_assoc}
use Rattle.text_writer.proofs.Appended.{then, within}
use Rattle.replay_replies.specs.Lines.{step_text}
use Rattle.replay_replies.proofs.StepPriceLine.put.Goals as goal

pub returns : goal.returns
unfolding step_text
returns c = within (rw c.from.ensures (simp append_assoc)) (omega arith) (then c.number.ensures c.number-2.ensures)
