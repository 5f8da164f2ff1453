-- A record that is read is a good plan, and its numbers are put; else the refusal.
use Rattle.std.proofs.Common.{◌≡◌, refl, rules, sym, ◌∙◌}
use Rattle.std.specs.Prelude.{Ok}
use Rattle.plan_record.specs.PlanRecord.{read_of}
use Rattle.plan_record.proofs.RecordRead.{read-good}
use Rattle.plan_line.specs.Line.{line_of}
use Rattle.plan_line.proofs.line.Goals as goal

pub returns-in-Err : goal.returns-in-Err
unfolding line_of
returns-in-Err c = rw (← c.read.ensures, c.in-Err.is) c.refusal_line.ensures

pub plan_line-requires : goal.plan_line-requires
plan_line-requires c =
    let read : read_of c.args.s.now ≡ Ok c.in-Ok.plan = sym c.read.ensures ∙ c.in-Ok.is in
    let good = rw read at (read-good c.args.s.now) in
    (good refl, search rules)

pub returns-in-Ok : goal.returns-in-Ok
unfolding line_of
returns-in-Ok c = rw (← c.read.ensures, c.in-Ok.is) c.plan_line.ensures
