-- After i turns the first i codes stand behind `ok`, at most 28 bytes each.
use Rattle.std.proofs.Common.{◌*◌}
use lib.ListN.{take}
use Rattle.text_writer.specs.TextWriter.{Appended}
use Rattle.replay_replies.specs.Lines.{codes_text}
use Rattle.replay_replies.proofs.CodesLine.put.Given as goal

abbrev pub invariant-loop-code : goal.invariant-loop-code
invariant-loop-code l = Appended (codes_text (take l.code-index l.code-items)) (28 * l.code-index) l.initial.writer l.writer
