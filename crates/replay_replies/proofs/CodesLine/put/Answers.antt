-- Each code is put behind those before it, and the newline behind them all.
use Rattle.std.proofs.Common.{rules, arith, ◌≡◌, length, ap, ◌∙◌}
use lib.ListN.{take}
use lib.Seq.{length-take-le, take_all}
use Rattle.account.specs.Codes.{told}
use Rattle.text_writer.proofs.Appended.{nothing, within, then}
use Rattle.replay_replies.specs.Lines.{ok_line}
use Rattle.replay_replies.proofs.CodesText.{codes-none, codes-more, codes-told}
use Rattle.replay_replies.proofs.CodesLine.put.Goals as goal

pub loop-code-init : goal.loop-code-init
loop-code-init c = rw codes-none (nothing _)

pub loop-code-preserved : goal.loop-code-preserved
loop-code-preserved c =
    let v = take c.min.result c.args.self.list in
    let i = c.loop-code.code-index in
    within (codes-more v i (omega arith)) (omega arith) (then c.loop-code.invariant c.item.ensures)

pub returns : goal.returns
unfolding ok_line
returns c =
    let k = c.args.self in
    let long : length k.list ≡ 8 = search (rules, c.well_formed) in
    let v = take c.min.result k.list in
    let all : take c.loop-code.code-index v ≡ v = take_all c.loop-code.code-index v (omega arith) in
    let text : take c.loop-code.code-index v ≡ told k = all ∙ ap (λ n. take n k.list) c.min.ensures ∙ codes-told k long in
    let few = length-take-le c.min.result k.list (omega arith) in
    within (rw (← text)) (omega arith) (then c.word.ensures (then c.loop-code.invariant c.word-2.ensures))
