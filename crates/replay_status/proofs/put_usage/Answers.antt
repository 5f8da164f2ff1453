-- The unit is put behind the number.
use Rattle.std.proofs.Common.{arith, refl}
use Rattle.text_writer.proofs.Appended.{within, then}
use Rattle.replay_status.specs.Status.{usage_status}
use Rattle.replay_status.proofs.put_usage.Goals as goal

pub returns : goal.returns
unfolding usage_status
returns c = within refl (omega arith) (then c.item.ensures c.word.ensures)
