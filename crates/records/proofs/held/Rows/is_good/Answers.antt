-- The first record that is not good decides; where there is none, all are good.
use Rattle.std.proofs.Common.{◌≡◌, true, leb, refl, sym, ◌∙◌, arith, rules}
use Rattle.std.proofs.lemmas.List.Recursion.{and_from_places, and_fails_at}
use borrow.Author.Tests.{tests}
use Rattle.records.specs.Bounds.{record_good, records_good}
use Rattle.records.specs.Records.{no_record}
use Rattle.records.specs.Words.{rows_of}
use Rattle.records.proofs.held.Rows.is_good.Goals as goal

pub returns-then-not-is_good : goal.returns-then-not-is_good
unfolding records_good
returns-then-not-is_good c =
    let good = record_good c.args.limits.top.0 c.args.limits.total.0 in
    let few : leb c.count-n.result c.limit.result ≡ true = search (rules, tests) in
    rw (← c.count-n.ensures, ← c.limit.ensures.limit, few)
    (sym (and_fails_at (records_good c.args.limits.top.0 c.args.limits.total.0) good refl (λ r rs. refl) (rows_of c.args.self) c.loop-k.k no_record
    (omega (arith, c.loop-k-test.true, c.count-n.ensures)) (rw (← c.row.ensures) (sym c.is_good.ensures ∙ c.if-not-is_good.true))))

pub loop-k-preserved : goal.loop-k-preserved
loop-k-preserved c = λ k p. grind (arith, c.loop-k.invariant, c.is_good.ensures, c.if-not-is_good.false, c.row.ensures)

pub returns : goal.returns
unfolding records_good
returns c =
    let good = record_good c.args.limits.top.0 c.args.limits.total.0 in
    let few : leb c.count-n.result c.limit.result ≡ true = search (rules, tests) in
    rw (← c.count-n.ensures, ← c.limit.ensures.limit, few)
    (sym (and_from_places (records_good c.args.limits.top.0 c.args.limits.total.0) good refl (λ r rs. refl) (rows_of c.args.self) no_record
    (λ k p. c.loop-k.invariant k (omega (arith, p, c.loop-k-test.false, c.count-n.ensures)))))
