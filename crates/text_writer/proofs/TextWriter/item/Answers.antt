-- The number is put behind the word.
use Rattle.text_writer.proofs.Appended.{then}
use Rattle.text_writer.proofs.TextWriter.item.Goals as goal

pub returns : goal.returns
returns c = then c.word.ensures c.value.ensures
