-- Date 0 has its words; else the date, the volume and the charge are put one behind another.
use Rattle.std.proofs.Common.{arith}
use borrow.Author.Tests.{eq-eqb, ne_eqb}
use Rattle.text_writer.proofs.Appended.{within, then}
use Rattle.replay_status.specs.Status.{day_status}
use Rattle.replay_status.proofs.put_day.Goals as goal

pub returns-then-date-eq0 : goal.returns-then-date-eq0
unfolding day_status
returns-then-date-eq0 c = within (rw (eq-eqb _ 0 c.if-date-eq0.true)) (omega arith) c.word.ensures

pub returns : goal.returns
unfolding day_status
returns c =
    let text = then c.item.ensures (then c.item-2.ensures (then c.item-3.ensures c.word-2.ensures)) in
    within (rw (ne_eqb _ 0 c.if-date-eq0.false, c.from.ensures)) (omega arith) text
