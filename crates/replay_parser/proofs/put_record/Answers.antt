-- A form without a record leaves the buffer. A word that is put is no longer than the content.
use Rattle.std.proofs.Common.{arith}
use borrow.Author.Tests.{le-leb}
use Rattle.text.proofs.Behind.{nothing}
use Rattle.replay_lexer.proofs.WordLengths.{word-most}
use Rattle.replay_parser.specs.Requests.{record_by}
use Rattle.replay_parser.proofs.put_record.Goals as goal

pub returns-else-f : goal.returns-else-f
unfolding record_by
returns-else-f c = rw (le-leb _ _ c.if-f.false) (nothing c.args.scratch.now).buffer

pub put_pairs-requires : goal.put_pairs-requires
put_pairs-requires c =
    let most = word-most c.args.s.now c.args.f.words in
    rw c.word.ensures (omega arith)
