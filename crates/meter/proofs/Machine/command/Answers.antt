use Rattle.std.proofs.Common.{rules}
use Rattle.meter.specs.Call.{command}
use Rattle.meter.specs.Refusals.{own_refusal}
use Rattle.meter.specs.Machine.{meter_of}
use Rattle.meter.proofs.AnswersByRefusal.{answered_by}
use Rattle.meter.proofs.Machine.command.Goals as goal

pub returns : goal.returns
unfolding own_refusal
returns c = answered_by (meter_of c.args.self c.args.words.now) (command c.args.p) _ _ _ c.run.ensures (λ a e. search rules) (λ t o i. search rules)
