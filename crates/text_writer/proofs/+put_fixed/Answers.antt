-- With no decimals the number and a point are put. Else a tenth, with one decimal less, and the last digit behind it.
use Rattle.std.proofs.Common.{◌≡◌, ℕ, suc, ◌+◌, ◌-◌, ◌%◌, ap, ◌∙◌, arith}
use Rattle.text.proofs.Behind.{within, byte-behind}
use Rattle.text_writer.specs.Value.{fixed}
use Rattle.text_writer.proofs.Decimals.{fixed-none, fixed_more}
use Rattle.text_writer.proofs.+put_fixed.Goals as goal

pub returns-then-k-eq0 : goal.returns-then-k-eq0
returns-then-k-eq0 t c = rw c.if-k-eq0.true (within (fixed-none _) (omega arith) c.put_item.ensures)

pub returns : goal.returns
returns t c =
    let x = c.args.x in
    let k = c.args.k in
    let more : k ≡ suc (k - 1) = omega arith in
    within (ap (λ (n : ℕ). fixed n x) more ∙ fixed_more (k - 1) x) (omega arith) (byte-behind (48 + x % 10) c.put_fixed-n.ensures (omega arith))
