-- The first place that passes, or else the length.
use Rattle.std.proofs.Common.{ℕ, List, ◌≡◌, Bool, eqb, not, length, rules, arith, ap, ◌∙◌}
use borrow.Author.Tests.{tests}
use Rattle.std.specs.Option.{unwrap_or}
use Rattle.std.specs.List.{position, position_or_len}
use Rattle.std.proofs.lemmas.Grind.{common_steps}
use Rattle.std.proofs.lemmas.Iterator.{YieldsList-from_slice}
use Rattle.std.proofs.lemmas.Iterator.Search.{position_from_yields_List}
use Rattle.std.proofs.lemmas.List.Sums.{prefix_len-le-length}
use Rattle.replay_lexer.proofs.lines.first.Goals as goal

or-length : (p : ℕ → Bool) (s : List ℕ) → unwrap_or (position p s) (length s) ≡ position_or_len p s
or-length p s = let h = prefix_len-le-length (λ x. not (p x)) s in grind (arith, common_steps)

pub returns-clause-place : goal.returns-clause-place
returns-clause-place c =
    let s = c.args.s.now in
    let e : c.position.result ≡ position (λ x. eqb x c.args.b) s =
    position_from_yields_List (λ x. eqb x c.args.b) _ _ c.position.result c.position.ensures.ran (YieldsList-from_slice s cc) (λ x b q k. search (rules, tests)) in
    c.unwrap_or.ensures ∙ ap (λ (r : _). unwrap_or r (length s)) e ∙ or-length (λ x. eqb x c.args.b) s
