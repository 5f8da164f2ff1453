-- The number and the newline are put behind the word.
use Rattle.std.proofs.Common.{arith}
use Rattle.text.proofs.Behind.{within, text-behind}
use Rattle.plan_line.proofs.refusal_line.Goals as goal

pub returns : goal.returns
returns c = within (rw (c.from-2.ensures, c.from.ensures)) (omega arith) (text-behind c.put_bytes-at.ensures c.put_item.ensures)
