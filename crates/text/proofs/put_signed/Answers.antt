-- The minus sign is stored first, and the number is put into the part behind it.
use Rattle.std.proofs.Common.{arith}
use Rattle.text.specs.Decimal.{signed}
use Rattle.text.proofs.Behind.{nothing, within, byte-behind, text-behind}
use Rattle.text.proofs.put_signed.Goals as goal

pub returns-then-negative : goal.returns-then-negative
unfolding signed
returns-then-negative c =
    let sign = byte-behind 45 (nothing c.args.out.now) (omega arith) in
    rw c.if-negative.true (text-behind sign c.put_decimal.ensures)

pub returns : goal.returns
unfolding signed
returns c = within (rw c.if-negative.false) (omega arith) c.put_decimal-2.ensures
