-- Each number is put behind the ones before it, and the last one with a newline.
use Rattle.std.proofs.Common.{◌≡◌, ◌-◌, length, refl, arith}
use borrow.Rule.Slice.PartMut.{same_len_mid}
use lib.Seq.{length-take-le}
use Rattle.std.proofs.lemmas.List.{get_or-take}
use Rattle.text.proofs.Behind.{nothing, within, text-behind}
use Rattle.text.proofs.Lines.{trailed-none, trailed-more, line}
use Rattle.text.proofs.put_numbers.Goals as goal

pub loop-x-init : goal.loop-x-init
loop-x-init c = record { same = refl; put = rw trailed-none (nothing c.args.out.now) }

pub loop-x-preserved : goal.loop-x-preserved
loop-x-preserved c =
    let v = c.args.v.now in
    let n = length v - 1 in
    let i = c.loop-x.x-index in
    let front = length-take-le n v (omega arith) in
    let same = get_or-take n v i 0 (omega arith) in
    let more = trailed-more v i (omega arith) in
    let kept = c.put_item-at.auto.out in
    record {
      same = rw same_len_mid c.loop-x.invariant.same;
      put = within more (omega arith) (text-behind c.loop-x.invariant.put (rw same at c.put_item-at.ensures));
    }

pub returns : goal.returns
returns c =
    let v = c.args.v.now in
    let front = length-take-le (length v - 1) v (omega arith) in
    let end : length v - 1 ≡ c.loop-x.x-index = omega arith in
    within (line v c.loop-x.x-index (omega arith)) (omega arith) (text-behind c.loop-x.invariant.put (rw end at c.put_item.ensures))
