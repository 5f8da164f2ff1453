-- There is a digit, and all are digits.
use Rattle.std.proofs.Common.{rules, ◌≡◌, false, eqb, length}
use borrow.Author.Tests.{tests}
use Rattle.std.specs.Char.{is_ascii_digit}
use Rattle.std.proofs.lemmas.Iterator.{YieldsList-from_slice}
use Rattle.std.proofs.lemmas.Iterator.Search.{all_from_yields_List}
use Rattle.replay_lexer.specs.Numbers.{is_number}
use Rattle.replay_lexer.proofs.words.is_number.Goals as goal

pub returns-then-not-is_empty : goal.returns-then-not-is_empty
unfolding is_number
returns-then-not-is_empty c =
    let some : eqb (length c.args.w.now) 0 ≡ false = search (rules, tests) in
    rw some
    (all_from_yields_List is_ascii_digit _ _ _ c.all.ensures.ran (YieldsList-from_slice c.args.w.now cc) (λ x b q k. search (rules, tests)))
