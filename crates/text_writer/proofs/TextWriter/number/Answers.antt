-- The byte is put behind the number.
use Rattle.text_writer.proofs.Appended.{then}
use Rattle.text_writer.proofs.TextWriter.number.Goals as goal

pub returns : goal.returns
returns c = then c.value.ensures c.word.ensures
