-- The record is put behind the day's number.
use Rattle.std.proofs.Common.{arith, append_assoc}
use Rattle.text_writer.proofs.Appended.{then, within}
use Rattle.replay_replies.specs.Lines.{heavy_text}
use Rattle.replay_replies.proofs.PlacedRecordLine.put.Goals as goal

pub returns : goal.returns
unfolding heavy_text
returns c = within (simp append_assoc) (omega arith) (then c.number.ensures c.put_record.ensures)
