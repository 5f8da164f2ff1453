use Rattle.std.proofs.Common.{rules}
use Rattle.meter.specs.Call.{tick}
use Rattle.state.specs.State.{state_with, registers_of}
use Rattle.account.specs.Codes.{note_all}
use Rattle.meter.specs.Refusals.{own_refusal}
use Rattle.meter.specs.Effects.{effect_of, codes_of}
use Rattle.meter.specs.Machine.{meter_of}
use Rattle.meter.proofs.AnswersByRefusal.{answered_by}
use Rattle.meter.proofs.Machine.tick.Goals as goal

pub returns : goal.returns
unfolding own_refusal effect_of codes_of note_all registers_of state_with
returns c = answered_by (meter_of c.args.self c.args.words.now) (tick c.args.p) _ _ _ c.run.ensures (λ a e. search rules) (λ t o i. search rules)
