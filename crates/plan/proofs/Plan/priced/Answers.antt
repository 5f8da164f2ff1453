-- The prices of the steps are the first n.
use Rattle.std.proofs.Common.{◌∙◌, rules, take, arith, leb}
use borrow.Author.Tests.{tests}
use Rattle.std.proofs.lemmas.Iterator.{YieldsList-from_slice}
use Rattle.std.proofs.lemmas.Iterator.Search.{all_from_yields_List}
use Rattle.units.specs.declared.TenThousandths.{TenThousandths}
use Rattle.units.specs.Volume.{price}
use Rattle.plan.specs.Rules.{priced}
use Rattle.plan.proofs.Every.{every-list}
use Rattle.plan.proofs.Plan.priced.Goals as goal

pub returns : goal.returns
unfolding priced
returns c =
    let p = c.args.self in
    let some = λ (x : TenThousandths). leb 1 x.0 in
    all_from_yields_List some _ _ c.all.result c.all.ensures.ran (YieldsList-from_slice (take p.steps p.prices) c.iter.ensures.rest) (λ x b q k. search (rules, tests))
    ∙ every-list some (price 0) p.prices p.steps (λ h. absurd (omega (arith, c.well_formed)))
