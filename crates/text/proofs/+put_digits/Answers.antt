-- A number below the base is one digit. Of any other the last digit stands behind those of the quotient.
use Rattle.std.proofs.Common.{arith}
use Rattle.text.proofs.Behind.{nothing, within, byte-behind}
use Rattle.text.proofs.Digits.{one_digit, more_digits}
use Rattle.text.proofs.+put_digits.Goals as goal

pub returns-then-x-base : goal.returns-then-x-base
returns-then-x-base g t c =
    let digit = byte-behind c.glyph_of.result (nothing c.args.out.now) (omega arith) in
    within (rw c.glyph_of.ensures (one_digit _ _ _ (omega arith) (omega arith))) (omega arith) digit

pub returns : goal.returns
returns g t c =
    let digit = byte-behind c.glyph_of-2.result c.put_digits-n.ensures (omega arith) in
    within (rw (c.glyph_of-2.ensures, c.NUMBER-base.ensures) (more_digits _ _ _ (omega arith) (omega arith))) (omega arith) digit
