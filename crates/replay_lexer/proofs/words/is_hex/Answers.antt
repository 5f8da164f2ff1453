-- The digits come in pairs, and all are hexadecimal.
use Rattle.std.proofs.Common.{rules}
use borrow.Author.Tests.{tests, eq-eqb}
use Rattle.std.specs.Char.{is_ascii_hexdigit}
use Rattle.std.proofs.lemmas.Iterator.{YieldsList-from_slice}
use Rattle.std.proofs.lemmas.Iterator.Search.{all_from_yields_List}
use Rattle.replay_lexer.specs.Hex.{is_hex}
use Rattle.replay_lexer.proofs.words.is_hex.Goals as goal

pub returns-then-w-eq0 : goal.returns-then-w-eq0
unfolding is_hex
returns-then-w-eq0 c =
    rw (eq-eqb _ _ c.if-w-eq0.true)
    (all_from_yields_List is_ascii_hexdigit _ _ _ c.all.ensures.ran (YieldsList-from_slice c.args.w.now cc) (λ x b q k. search (rules, tests)))
