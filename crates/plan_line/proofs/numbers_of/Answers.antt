-- Each pair is pushed behind those before it.
use Rattle.std.proofs.Common.{◌≡◌, ◌<◌, length, arith, take, rules, None, ◌∙◌, ap, append_assoc, length-append, length-take}
use Rattle.std.proofs.lemmas.Slice.Zip.{zip_turn, zip_end}
use Rattle.std.proofs.lemmas.List.{append-nil, get_or-take}
use Rattle.units.specs.declared.Hundredths.{Hundredths}
use Rattle.units.specs.declared.TenThousandths.{TenThousandths}
use Rattle.units.specs.Volume.{volume, price}
use Rattle.plan.specs.Plan.{width_at, price_at}
use Rattle.plan_line.specs.Line.{numbers_of}
use Rattle.plan_line.proofs.Pairs.{no_pairs, next-pair, length-pairs, length-head}
use Rattle.plan_line.proofs.numbers_of.Goals.{After-from, After-next}
use Rattle.plan_line.proofs.numbers_of.Goals as goal

-- the pair of a turn is the next one of the plan
turn : (c : After-from) → let p = c.args.p in
    let n = length c.loop-width.yielded in
    (n < p.steps) × (c.in-Some.width.now.0 ≡ width_at p n) × (c.in-Some.price.now.0 ≡ price_at p n)
turn c =
    let p = c.args.p in
    let n = length c.loop-width.yielded in
    let read = c.from-read.result in
    let w = c.into_iter-width-iterator.ensures.into_iter_gives in
    let t = zip_turn p.widths (take read p.prices) c.loop-width.yielded c.into_iter-width-iterator.result c.loop-width.width-iterator c.next.new.self c.next.result
    (rw (w, c.zip-width-items.ensures.first) c.iter.ensures.rest) (rw w c.zip-width-items.ensures.second.0)
    c.loop-width.yielded_by (c.in-Some.width, c.in-Some.price) c.in-Some.is c.next.ensures.steps in
    let before : n < read = omega (arith, t.1, length-take {A = TenThousandths}) in (
      omega arith,
      ap (λ (x : Hundredths). x.0) (t.2 (volume 0)),
      ap (λ (x : TenThousandths). x.0) (t.3 (price 0) ∙ get_or-take read p.prices n (price 0) before),
    )

-- after the last turn every pair was pushed
all : (c : After-next) → c.next.result ≡ None → length c.loop-width.yielded ≡ c.args.p.steps
all c e =
    let p = c.args.p in
    let read = c.from-read.result in
    let w = c.into_iter-width-iterator.ensures.into_iter_gives in
    let t = zip_end p.widths (take read p.prices) c.loop-width.yielded c.into_iter-width-iterator.result c.loop-width.width-iterator c.next.new.self c.next.result
    (rw (w, c.zip-width-items.ensures.first) c.iter.ensures.rest) (rw w c.zip-width-items.ensures.second.0)
    c.loop-width.yielded_by e c.next.ensures.steps in
    let widths : length p.widths ≡ 6 = search rules in
    let prices : length p.prices ≡ 6 = search rules in
    omega (arith, length-take {A = TenThousandths})

pub loop-width-init : goal.loop-width-init
loop-width-init c = rw (c.head_of-numbers.ensures, no_pairs, append-nil)

pub push-requires : goal.push-requires
push-requires c =
    let head = length-head c.args.p in
    let pair = turn c in
    rw (c.loop-width.invariant, length-append, length-pairs) (omega arith)

pub push-requires-in-loop-width : goal.push-requires-in-loop-width
push-requires-in-loop-width c =
    let head = length-head c.args.p in
    let pair = turn (goal.at.push-requires-in-loop-width c).After-from in
    rw (c.push.ensures.items, c.loop-width.invariant, length-append, length-append, length-pairs) (omega arith)

pub loop-width-preserved : goal.loop-width-preserved
loop-width-preserved c =
    let pair = turn (goal.at.loop-width-preserved c).After-from in
    rw (c.push-in-loop-width.ensures.items, c.push.ensures.items, c.loop-width.invariant, length-append, next-pair, c.from.ensures, pair.1, pair.2) (simp append_assoc)

pub returns-clause-value : goal.returns-clause-value
unfolding numbers_of
returns-clause-value c = rw (all (goal.at.returns-clause-value c).After-next c.in-None.is) at c.loop-width.invariant

pub returns-clause-some : goal.returns-clause-some
returns-clause-some c =
    let head = length-head c.args.p in
    let n = all (goal.at.returns-clause-some c).After-next c.in-None.is in
    rw (c.loop-width.invariant, length-append, length-pairs) (omega arith, omega arith)
