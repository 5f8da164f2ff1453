-- The record of a plan has half as many bytes as its word has digits.
use Rattle.replay_lexer.proofs.WordLengths.{bytes-length}
use Rattle.replay_parser.specs.Requests.{request_for}
use Rattle.replay_parser.proofs.request_for.Goals as goal

pub returns-in-Plan : goal.returns-in-Plan
unfolding request_for
returns-in-Plan c = rw (c.in-Plan.is, bytes-length, ← c.word.ensures, ← c.stamp_in-stamp.ensures, c.narrow_at-slot.ensures)
