-- No plan in force has its words; any other refusal's number is put behind its word.
use Rattle.std.proofs.Common.{arith}
use Rattle.text_writer.proofs.Appended.{within, then}
use Rattle.replay_status.specs.Status.{step_status}
use Rattle.replay_status.proofs.OnlyNoPlan.{other_number}
use Rattle.replay_status.proofs.put_refusal.Goals as goal

pub returns-in-NoPlan : goal.returns-in-NoPlan
unfolding step_status
returns-in-NoPlan c = within (rw c.in-NoPlan.is) (omega arith) c.word.ensures

pub returns-in_default : goal.returns-in_default
unfolding step_status
returns-in_default c =
    let other = other_number c.args.refusal c.in_default.not-NoPlan in
    within (rw (other, c.from-in_default.ensures, c.from.ensures)) (omega arith) (then c.item.ensures c.word-in_default.ensures)
