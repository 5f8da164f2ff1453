-- The days in force are the dates of one run.
use Rattle.std.proofs.Common.{◌≡◌, ◌∙◌, sym, rules}
use Rattle.plan.specs.InForce.{in_period, first_day, end_day}
use Rattle.plan.proofs.DaysInForce.{on-days}
use Rattle.plan.proofs.Plan.in_force.Goals as goal

pub returns : goal.returns
returns c =
    let p = c.args.self in
    let told : c.contains.result ≡ in_period (first_day p) (end_day p) c.args.d = search rules in
    told ∙ sym (on-days p c.args.d)
