-- The three numbers, and whether they agree, are put one behind another.
use Rattle.std.proofs.Common.{sym, ◌∙◌, arith, rules}
use Rattle.text_writer.proofs.Appended.{then, first}
use Rattle.replay_replies.specs.Closing.{closing_line}
use Rattle.replay_replies.proofs.closing_line.Goals as goal

pub returns : goal.returns
unfolding closing_line
returns c =
    let text = then c.item.ensures (then c.item-2.ensures (then c.item-3.ensures c.either.ensures)) in
    let name = sym (text.same_reference ∙ c.new-writer.ensures.same_reference) in
    first c.new-writer.ensures.blank c.new-writer.ensures.whole c.end.ensures.used (search rules) (rw c.agree.ensures) (omega arith)
    text
