-- The mark's line is put behind the valve's.
use Rattle.std.proofs.Common.{arith, refl}
use Rattle.text_writer.proofs.Appended.{within, then}
use Rattle.replay_status.specs.Status.{valve_status}
use Rattle.replay_status.proofs.put_valve.Goals as goal

pub returns : goal.returns
unfolding valve_status
returns c = within refl (omega arith) (then c.either.ensures c.either-2.ensures)
