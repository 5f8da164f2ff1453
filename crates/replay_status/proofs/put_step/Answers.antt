-- The number, the price and the unit are put one behind another.
use Rattle.std.proofs.Common.{arith}
use Rattle.text_writer.proofs.Appended.{within, then}
use Rattle.replay_status.specs.Status.{step_status}
use Rattle.replay_status.proofs.put_step.Goals as goal

pub returns-in-Ok : goal.returns-in-Ok
unfolding step_status
returns-in-Ok c =
    let text = then c.item.ensures (then c.item-in-Ok.ensures c.word.ensures) in
    within (rw (c.in-Ok.is, c.from.ensures)) (omega arith) text
