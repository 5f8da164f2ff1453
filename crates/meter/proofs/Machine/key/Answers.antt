use Rattle.std.proofs.Common.{rules}
use Rattle.meter.specs.Call.{key}
use Rattle.state.specs.State.{state_with}
use Rattle.state.specs.Refusals.{key_allowed}
use Rattle.meter.specs.Refusals.{own_refusal}
use Rattle.meter.specs.Machine.{meter_of}
use Rattle.meter.proofs.AnswersByRefusal.{answered_by}
use Rattle.meter.proofs.Machine.key.Goals as goal

pub returns : goal.returns
unfolding own_refusal key_allowed state_with
returns c = answered_by (meter_of c.args.self c.args.words.now) (key c.args.p) _ _ _ c.run.ensures (λ a e. search rules) (λ t o i. search rules)
