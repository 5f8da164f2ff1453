-- The lines are put one behind another.
use Rattle.std.proofs.Common.{sym, ◌∙◌, arith, rules}
use Rattle.state.specs.State.{state_with}
use Rattle.text_writer.proofs.Appended.{then, first}
use Rattle.replay_status.specs.Status.{status_lines}
use Rattle.replay_status.proofs.status.Goals as goal

pub returns : goal.returns
unfolding status_lines state_with
returns c =
    let text = then c.put_balance.ensures (then c.put_usage.ensures (then c.put_step.ensures (then c.put_valve.ensures c.put_day.ensures))) in
    let name = sym (text.same_reference ∙ c.new-writer.ensures.same_reference) in
    first c.new-writer.ensures.blank c.new-writer.ensures.whole c.end.ensures.used (search rules) (rw c.step.ensures) (omega arith) text
