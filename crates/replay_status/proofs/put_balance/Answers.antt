-- The word, the sign, the number and the unit are put one behind another.
use Rattle.std.proofs.Common.{arith}
use Rattle.text_writer.proofs.Appended.{within, then}
use Rattle.replay_status.specs.Status.{balance_status}
use Rattle.replay_status.proofs.put_balance.Goals as goal

pub returns : goal.returns
unfolding balance_status
returns c =
    let text = then c.word.ensures (then c.either.ensures (then c.item.ensures c.word-2.ensures)) in
    within (rw (c.negative.ensures, c.size.ensures)) (omega arith) text
