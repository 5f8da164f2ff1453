-- What was answered is put by a writer on the buffer, or the refusal's number behind its word.
use Rattle.std.proofs.Common.{sym, ◌∙◌, arith, refl, rules}
use Rattle.text_writer.specs.TextWriter.{Appended, most_line}
use Rattle.text_writer.proofs.Appended.{within, then, first}
use Rattle.replay_replies.specs.Lines.{refused_line, answer_line}
use Rattle.replay_replies.proofs.answer_line.Goals as goal
use Rattle.replay_replies.proofs.answer_line.Goals.{in-Ok, in-Err}

pub returns : goal.returns
unfolding refused_line
returns g c =
    let text : Appended (answer_line g.T.Line.text c.args.answer) most_line c.new-writer.result c.match-answer.writer = elim c.match-answer.branch [
      | in-Ok w ↦ rw (w.in-Ok.is, w.writer-is) w.put.ensures
      | in-Err w ↦
          rw (w.in-Err.is, w.writer-is) (within (rw (w.from-in-Err.ensures, w.from.ensures)) (omega arith) (then w.word.ensures w.number.ensures))
    ] in
    let name = sym (text.same_reference ∙ c.new-writer.ensures.same_reference) in
    first c.new-writer.ensures.blank c.new-writer.ensures.whole c.end.ensures.used (search rules) refl (omega arith) text
