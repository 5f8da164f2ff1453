-- The record's numbers are put.
use Rattle.std.proofs.Common.{arith, refl}
use Rattle.text_writer.proofs.Appended.{within}
use Rattle.replay_replies.proofs.RecordLine.put.Goals as goal

pub returns : goal.returns
returns c = within refl (omega arith) c.put_record.ensures
