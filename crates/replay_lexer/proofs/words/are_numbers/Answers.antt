-- The words from 1 on are tried in order.
use Rattle.std.proofs.Common.{rules, ℕ, Bool, ◌≡◌, ◌+◌, ◌&&◌, refl, ap, ◌∙◌, arith}
use borrow.Author.Tests.{tests}
use Prim.Native.Nat.{zero, suc}
use Rattle.std.specs.List.{list_all, range_with_len}
use Rattle.std.proofs.lemmas.Iterator.{YieldsList-from_range}
use Rattle.std.proofs.lemmas.Iterator.Search.{all_from_yields_List}
use Rattle.replay_lexer.specs.Words.{word_at}
use Rattle.replay_lexer.specs.Numbers.{is_number, are_numbers}
use Rattle.replay_lexer.proofs.words.are_numbers.Goals as goal

from-next : (p : ℕ → Bool) (a n : ℕ) → list_all (λ k. p (k + 1)) (range_with_len a n) ≡ list_all p (range_with_len (a + 1) n)
from-next p a zero = refl
from-next p a (suc n) = ap (λ (b : Bool). p (a + 1) && b) (from-next p (a + 1) n)

pub returns : goal.returns
unfolding are_numbers
returns c =
    let s = c.args.s.now in
    let n = c.args.n in
    all_from_yields_List (λ k. is_number (word_at s (k + 1))) _ _ c.all.result c.all.ensures.ran (YieldsList-from_range 0 n n refl (omega arith)) (λ x b q k. search (rules, tests))
    ∙ from-next (λ k. is_number (word_at s k)) 0 n
