use Rattle.std.proofs.Common.{◌≡◌, [], ◌∷◌, sym, ◌∙◌, rules}
use Rattle.std.specs.Prelude.{⊤, Result, Ok, Err}
use Rattle.refusal.specs.declared.Refusal.{Refusal}
use Rattle.refusal.specs.Refusal.{next}
use Rattle.refusal.proofs.Tests.{next-first, next-rest}
use Rattle.account.specs.declared.Event.TheVariants.{Set}
use Rattle.account.specs.Codes.{event_code, note_all}
use Rattle.plan.specs.declared.Plan.{Plan}
use Rattle.plan_record.specs.PlanRecord.{read_of, plan_in}
use Rattle.slots.specs.declared.SlotName.{SlotName}
use Rattle.slots.specs.World.{real}
use Rattle.slots.specs.Load.{slot_named, load_refusal, loaded}
use Rattle.state.specs.State.{state_with, alone, registers_of, with_slots}
use Rattle.meter.specs.Call.{load}
use Rattle.meter.specs.Refusals.{own_refusal}
use Rattle.meter.specs.Effects.{effect_of, codes_of}
use Rattle.meter.specs.Machine.{meter_of}
use Rattle.meter.specs.Accepted.{accepted_of}
use Rattle.meter.proofs.AnswersByRefusal.{answered}
use Rattle.meter.proofs.Machine.load.Goals as goal

refused-first : {T : Type 0} (a : Result ⊤ Refusal) (x : T) {n : Refusal} → Err n ≡ next a (Ok x) → a ≡ Err n
refused-first (Ok t) x e = cc
refused-first (Err k) x e = cc

pub returns : goal.returns
unfolding own_refusal effect_of codes_of state_with
returns c =
    let a = load_refusal real c.args.self.registers.slots c.args.p.stamp.date c.args.p.slot (read_of c.args.bytes.now) in
    let y : SlotName × Plan = (slot_named c.args.p.slot, plan_in (read_of c.args.bytes.now)) in
    answered (meter_of c.args.self c.args.words.now) (load c.args.p c.args.bytes.now) _ _ _ c.run.ensures
    (λ n e. let i : Err n ≡ next a (Ok y) = search rules in refused-first a y i)
    (λ x e. let i : Ok x ≡ next a (Ok y) = search rules in next-first a (Ok y) (sym i))
    (λ x t o e j.
    let i : Ok x ≡ next a (Ok y) = search rules in
    let k : Ok y ≡ Ok x = next-rest a (Ok y) (sym i) in
    let v : x ≡ y = cc in
    let f : o ≡ accepted_of (registers_of (with_slots (alone t.registers) (loaded t.registers.slots x.0 x.1))) (note_all t.codes (event_code Set ∷ [])) = search rules in
    f ∙ rw v)
