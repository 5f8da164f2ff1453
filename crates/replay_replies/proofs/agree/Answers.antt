-- The difference of two numbers of 64 bits fits 128.
use Rattle.std.proofs.Common.{arith, rules}
use Rattle.replay_replies.specs.Closing.{agrees}
use Rattle.replay_replies.proofs.Agrees.{difference}
use Rattle.replay_replies.proofs.agree.Goals as goal

pub returns : goal.returns
unfolding agrees
returns c = rw (c.from.ensures, c.from-2.ensures, c.from-3.ensures) (difference c.args.recharged.0 c.args.balance.0 c.args.ledger.0 (omega arith) (search (rules, c.well_formed)) (omega arith))
