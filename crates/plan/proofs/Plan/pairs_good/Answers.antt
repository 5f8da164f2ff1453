-- The widths and the prices of the steps are the first n, and behind the six of each there is nothing to refuse.
use Rattle.std.proofs.Common.{◌≡◌, ◌∙◌, refl, sym, rules, get_or}
use borrow.Author.Tests.{tests}
use Rattle.std.proofs.lemmas.Iterator.{YieldsList-from_slice, YieldsList-from_take}
use Rattle.std.proofs.lemmas.Iterator.Search.{all_from_yields_List}
use Rattle.units.specs.declared.Hundredths.{Hundredths}
use Rattle.units.specs.declared.TenThousandths.{TenThousandths}
use Rattle.units.specs.Volume.{volume, price}
use Rattle.plan.specs.Rules.{every, eight_digits}
use Rattle.plan.proofs.Every.{every-list, every-both}
use Rattle.plan.proofs.Plan.pairs_good.Goals as goal

pub returns : goal.returns
returns c =
    let p = c.args.self in
    let wide = λ (x : Hundredths). eight_digits x.0 in
    let dear = λ (x : TenThousandths). eight_digits x.0 in
    let w : c.all.result ≡ every (λ i. wide (get_or p.widths i (volume 0))) p.steps =
    all_from_yields_List wide _ _ c.all.result c.all.ensures.ran
    (YieldsList-from_take p.steps (YieldsList-from_slice p.widths (rw c.take-widths.ensures.source c.iter.ensures.rest)) c.take-widths.ensures.count)
    (λ x b q k. search (rules, tests))
    ∙ every-list wide (volume 0) p.widths p.steps (λ _. refl)
    in
    let d : c.all-2.result ≡ every (λ i. dear (get_or p.prices i (price 0))) p.steps =
    all_from_yields_List dear _ _ c.all-2.result c.all-2.ensures.ran
    (YieldsList-from_take p.steps (YieldsList-from_slice p.prices (rw c.take-prices.ensures.source c.iter-2.ensures.rest)) c.take-prices.ensures.count)
    (λ x b q k. search (rules, tests))
    ∙ every-list dear (price 0) p.prices p.steps (λ _. refl)
    in
    rw (w, d) (sym (every-both (λ i. wide (get_or p.widths i (volume 0))) (λ i. dear (get_or p.prices i (price 0))) p.steps))
