-- The four numbers are put one behind another.
use Rattle.std.proofs.Common.{arith, append_assoc}
use Rattle.text_writer.proofs.Appended.{then, within}
use Rattle.replay_replies.specs.Lines.{record_text}
use Rattle.replay_replies.proofs.put_record.Goals as goal

pub returns : goal.returns
unfolding record_text
returns c =
    within (rw (c.from.ensures, c.from-2.ensures) (simp append_assoc)) (omega arith)
    (then c.number.ensures (then c.number-2.ensures (then c.number-3.ensures c.number-4.ensures)))
