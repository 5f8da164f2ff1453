-- The byte is stored behind the number.
use Rattle.std.proofs.Common.{arith}
use Rattle.text.proofs.Behind.{byte-behind}
use Rattle.text.proofs.put_item.Goals as goal

pub returns : goal.returns
returns c = byte-behind c.args.after c.put_decimal-n.ensures (omega arith)
