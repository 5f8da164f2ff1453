-- What is wrong is put behind the line's number.
use Rattle.std.proofs.Common.{sym, ◌∙◌, arith, rules}
use Rattle.text_writer.proofs.Appended.{then, first}
use Rattle.replay_replies.specs.Errors.{error_line, fault_line}
use Rattle.replay_replies.proofs.error_line.Goals as goal

pub returns : goal.returns
unfolding error_line fault_line
returns c =
    let text = then c.item.ensures (then c.word.ensures (then c.word-2.ensures c.word-3.ensures)) in
    let name = sym (text.same_reference ∙ c.new-writer.ensures.same_reference) in
    first c.new-writer.ensures.blank c.new-writer.ensures.whole c.end.ensures.used (search rules) (rw (← c.fault_words.ensures.words)) (omega arith)
    text
