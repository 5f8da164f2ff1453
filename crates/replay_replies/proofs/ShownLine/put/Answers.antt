-- The number with its sign is put.
use Rattle.std.proofs.Common.{arith, refl}
use Rattle.text_writer.proofs.Appended.{within}
use Rattle.replay_replies.specs.Lines.{display_text}
use Rattle.replay_replies.proofs.ShownLine.put.Goals as goal

pub returns : goal.returns
unfolding display_text
returns c = within refl (omega arith) c.number.ensures
