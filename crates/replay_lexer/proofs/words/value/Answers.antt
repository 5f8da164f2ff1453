-- What is cut at the greatest number stays cut there.
use Rattle.std.proofs.Common.{List, ℕ, ◌≡◌, ◌+◌, ◌-◌, ◌*◌, min, rules, refl, arith, ◌∙◌}
use borrow.Author.Tests.{tests}
use mathlib.Core.List.{[], ◌∷◌}
use Rattle.std.specs.List.{fold}
use Rattle.std.proofs.lemmas.Iterator.{YieldsList-from_slice}
use Rattle.std.proofs.lemmas.Iterator.Consumers.{fold_from_yields_List}
use Rattle.replay_lexer.specs.Numbers.{value_of}
use Rattle.replay_lexer.proofs.words.value.Goals as goal

module _ (top : ℕ) where
  cut : (w : List ℕ) (v : ℕ) → fold (λ v x. min (min (v * 10) top + (x - 48)) top) (min top v) w ≡ min top (fold (λ v x. v * 10 + (x - 48)) v w)
  cut [] v = refl
  cut (x ∷ w) v =
      let e : min (min (min top v * 10) top + (x - 48)) top ≡ min top (v * 10 + (x - 48)) = omega arith in
      rw e (cut w (v * 10 + (x - 48)))

pub returns : goal.returns
unfolding value_of
returns c =
    let w = c.args.w.now in
    let e : c.fold.result ≡ fold (λ v x. min (min (v * 10) 18446744073709551615 + (x - 48)) 18446744073709551615) 0 w
    = fold_from_yields_List _ (λ v x. min (min (v * 10) 18446744073709551615 + (x - 48)) 18446744073709551615) 0 c.fold.result c.fold.ensures.ran (YieldsList-from_slice w cc) (λ a x b q k. search (rules, tests)) in
    e ∙ cut 18446744073709551615 w 0
