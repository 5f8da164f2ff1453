-- The line of each record is put behind the lines of those before it.
use Rattle.std.proofs.Common.{ℕ, ◌≡◌, ◌+◌, length, [], ◌∷◌, ◌++◌, sym, ◌∙◌, arith, length-append}
use Rattle.text.proofs.Behind.{nothing, within, text-behind}
use Rattle.plan_line.specs.Records.{lines_of}
use Rattle.plan_line.proofs.Records.{no_lines, next-line, next-record, rest-behind, more-records, all-records}
use Rattle.plan_line.proofs.lines.Goals as goal

pub loop-record-init : goal.loop-record-init
loop-record-init c =
    let made = c.into_iter-record-iterator.ensures.into_iter_gives in
    record {
      size = rw made c.chunks-record-items.ensures.size;
      rest = rw made c.chunks-record-items.ensures.rest;
      few = omega arith;
      put = rw no_lines (nothing c.args.out.now);
    }

pub loop-record-preserved : goal.loop-record-preserved
loop-record-preserved c =
    let s = c.args.s.now in
    let n : ℕ = length c.loop-record.yielded in
    let before = c.loop-record.invariant in
    let step = c.in-Some.ensures.steps in
    let more : length (c.loop-record.yielded ++ (c.in-Some.record ∷ [])) ≡ n + 1 = rw length-append in
    let parts = sym before.rest ∙ step.1.0 in
    let long = rw (before.size, before.rest) at step.1.1 in
    record {
      size = step.0 ∙ before.size;
      rest = rw more (rest-behind s n _ _ parts long);
      few = rw more (more-records s n (rw before.rest at step.1.2));
      put = within (rw more (next-line s n)) (rw more (omega arith)) (text-behind before.put (rw (next-record s n _ _ parts long) at c.line-at.ensures));
    }

pub returns : goal.returns
unfolding lines_of
returns c =
    let s = c.args.s.now in
    let before = c.loop-record.invariant in
    let all = all-records s (length c.loop-record.yielded) before.few (rw before.rest at c.in-None.ensures.steps.1.0) in
    within (rw all) (rw all (omega arith)) before.put
