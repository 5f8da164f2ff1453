-- The word is put into the part of the buffer behind what the writer has put.
use Rattle.std.proofs.Common.{refl}
use Rattle.text_writer.proofs.Appended.{in-part}
use Rattle.text_writer.proofs.TextWriter.word.Goals as goal

pub returns : goal.returns
returns c = in-part c.put_bytes.ensures c.put_bytes.auto.out refl
