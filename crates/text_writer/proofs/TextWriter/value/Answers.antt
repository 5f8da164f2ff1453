-- The number is put into the part of the buffer behind what the writer has put.
use Rattle.std.proofs.Common.{refl}
use Rattle.text_writer.proofs.Appended.{in-part}
use Rattle.text_writer.proofs.TextWriter.value.Goals as goal

pub returns : goal.returns
returns c = in-part c.put.ensures c.put.auto.out refl
