-- The part of the split at that place, or nothing past the last.
use Rattle.std.proofs.Common.{List, [], ℕ, ◌≡◌, Some, None, Option, eqb, rules, refl, ap, ◌∙◌}
use denote.Ref.{Bor}
use borrow.Author.Tests.{tests}
use Rattle.std.specs.Option.{unwrap_or, option_map}
use Rattle.std.specs.List.{slice_get, slice_split}
use Rattle.std.proofs.lemmas.Option.{unwrap_or-slice_get}
use Rattle.std.proofs.lemmas.Iterator.Consumers.{nth_from_yields_List}
use Rattle.std.proofs.lemmas.Iterator.Splits.{YieldsList-from_slice_split}
use Rattle.replay_lexer.specs.Words.{word_at}
use Rattle.replay_lexer.proofs.words.word.Goals as goal

read : (r : Option (Bor (List ℕ))) (d : Bor (List ℕ)) → (unwrap_or r d).now ≡ unwrap_or (option_map (λ (x : Bor (List ℕ)). x.now) r) d.now
read None d = refl
read (Some x) d = refl

pub returns : goal.returns
unfolding word_at
returns c =
    let s = c.args.s.now in
    let nth : option_map (λ (x : Bor (List ℕ)). x.now) c.nth.result ≡ slice_get (slice_split (λ x. eqb x 32) s) c.args.k
    = nth_from_yields_List c.nth.result _ c.args.k c.nth.ensures.ran (YieldsList-from_slice_split _ (λ x. eqb x 32) s c.split.ensures.rest c.split.ensures.done c.split.ensures.closure (λ x b q k. search (rules, tests))) in
    ap (λ (r : Bor (List ℕ)). r.now) c.unwrap_or.ensures ∙ read c.nth.result _ ∙ rw nth (unwrap_or-slice_get _ c.args.k [])
