-- Refused by its stamp or by its count; else the pulses count on the day of their stamp, whether
-- it is turned first or stands.
use Rattle.std.proofs.Common.{◌≡◌, List, ℕ, ◌+◌, ◌≤◌, refl, sym, ap, subst, ◌∙◌, arith}
use Rattle.std.specs.Prelude.{Ok}
use Rattle.units.specs.Volume.{highest_total}
use Rattle.calendar.specs.declared.Stamp.{Stamp}
use Rattle.account.specs.declared.Codes.{Codes}
use Rattle.account.specs.Codes.{no_codes, note_all}
use Rattle.slots.specs.declared.SlotInForce.{SlotInForce}
use Rattle.slots.specs.World.{real}
use Rattle.slots.specs.Slots.{in_force_on}
use Rattle.slots.proofs.InForce.{its-some}
use Rattle.state.specs.declared.Registers.{Registers}
use Rattle.state.specs.declared.RegistersAndCodes.{RegistersAndCodes}
use Rattle.std.proofs.lemmas.Result.{err_from_is_err_and}
use Rattle.state.specs.State.{State, state_with, alone, registers_of, with_clock}
use Rattle.state.specs.Turn.{turn, turn_codes, turn_words, Turned}
use Rattle.state.specs.Pulsed.{pulsed, pulse_codes}
use Rattle.state.specs.Refusals.{stamp_refusal}
use Rattle.state.proofs.Admitted.{admitted}
use Rattle.state.proofs.BoundsInParts.{total-low}
use Rattle.state.proofs.Headroom.{state, pulses-fit, turned-good, turned-clock, same-day, same_codes, same-words, alone-good, later-in-force, same-in-force}
use Rattle.meter.specs.declared.Meter.{Meter}
use Rattle.meter.specs.Call.{pulses}
use Rattle.meter.specs.Refusals.{own_refusal}
use Rattle.meter.specs.Effects.{effect_of, codes_of}
use Rattle.meter.specs.Machine.{meter_of, state_in}
use Rattle.meter.specs.Accepted.{accepted_of}
use Rattle.meter.proofs.AnswersByRefusal.{not-admitted, denied, accepts}
use Rattle.meter.proofs.Machine.pulses.Goals as goal
use Rattle.meter.proofs.Machine.pulses.Goals.{After-pulsed-arg-2-1, then-self-date, else-self-date}

-- whether the day turned or not, registers, words and codes are those of the turn but for the clock, and the slot is that in force on the
-- stamp's date
record Met (m : Meter) (s : Stamp) (r : Registers) (h : List ℕ) (n : Codes) (f : SlotInForce) : Type 0 where
  registers : with_clock (alone r) s ≡ alone (registers_of (turn real (state_in m) s))
  words : h ≡ turn_words m.machine.registers s m.held
  codes : n ≡ note_all no_codes (turn_codes real (state_in m) s)
  in_force : f ≡ in_force_on real (turn real (state_in m) s).slots s.date

-- a day that turned
met-turned : (m : Meter) (s : Stamp) (t : RegistersAndCodes) {r : Registers} {g h : List ℕ} {n : Codes} {f e : SlotInForce} →
    Turned m.machine.registers m.held s t g → e ≡ in_force_on real m.machine.registers.slots s.date →
    r ≡ t.registers → h ≡ g → n ≡ t.codes → f ≡ e → Met m s r h n f
unfolding state_with
met-turned m s t q i a b c d = record {
  registers = ap (λ (x : Registers). with_clock (alone x) s) (a ∙ q.0) ∙ turned-clock (state_in m) s;
  words = b ∙ q.1;
  codes = c ∙ q.2;
  in_force = d ∙ i ∙ later-in-force (state_in m) s;
}

-- a day that stands
met-same : (m : Meter) (s : Stamp) {r : Registers} {h : List ℕ} {n k : Codes} {f e : SlotInForce} → stamp_refusal real (state_in m) s ≡ Ok tt →
    s.date ≤ m.machine.registers.clock.date → k ≡ no_codes → e ≡ in_force_on real m.machine.registers.slots m.machine.registers.clock.date →
    r ≡ m.machine.registers → h ≡ m.held → n ≡ k → f ≡ e → Met m s r h n f
unfolding note_all state_with
met-same m s p l j i a b c d = record {
  registers = ap (λ (x : Registers). with_clock (alone x) s) a ∙ same-day m.machine.registers m.held s l;
  words = b ∙ sym (same-words m.machine.registers m.held s l);
  codes = c ∙ j ∙ sym (ap (note_all no_codes) (same_codes m.machine.registers m.held s l));
  in_force = d ∙ i ∙ same-in-force (state_in m) s p l;
}

pub admit-admitted-requires : goal.admit-admitted-requires
admit-admitted-requires c = c.is_some.ensures ∙ its-some real c.args.self.registers.slots c.in_force_on-was.ensures

pub returns-in_default : goal.returns-in_default
returns-in_default c = not-admitted (meter_of c.args.self c.args.words.now) (pulses c.args.p) (sym c.unwrap_err.ensures ∙ c.admit-admitted.ensures)

pub pulse_refusal-requires : goal.pulse_refusal-requires
unfolding state_with
pulse_refusal-requires c = total-low real _ (state _ (admitted (state_in (meter_of c.args.self c.args.words.now)) c.args.p.stamp _ (sym (sym c.in-Ok.is ∙ c.admit-admitted.ensures))).bounds)

pub returns-in_err-pulse_refusal : goal.returns-in_err-pulse_refusal
unfolding own_refusal state_with
returns-in_err-pulse_refusal c =
    let p = err_from_is_err_and c.from_residual.result c.from_residual.ensures.1 in rw (p.1, p.2)
    (denied (meter_of c.args.self c.args.words.now) (pulses c.args.p) (admitted (state_in (meter_of c.args.self c.args.words.now)) c.args.p.stamp _ (sym (sym c.in-Ok.is ∙ c.admit-admitted.ensures))).passed (sym c.in_err-pulse_refusal.ensures))

pub turn-t-requires : goal.turn-t-requires
unfolding state_with
turn-t-requires c =
    let a = admitted (state_in (meter_of c.args.self c.args.words.now)) c.args.p.stamp _ (sym (sym c.in-Ok.is ∙ c.admit-admitted.ensures)) in
    record { bounds = a.bounds; its_date = a.date }

-- the registers to which the pulses come
met : (c : After-pulsed-arg-2-1) → Met (meter_of c.args.self c.args.words.now) c.args.p.stamp c.if-self-date.s c.if-self-date.words c.if-self-date.codes c.if-self-date.f
met c =
    let u : Meter = meter_of c.args.self c.args.words.now in
    let s : Stamp = c.args.p.stamp in
    let a = admitted (state_in u) s _ (sym (sym c.in-Ok.is ∙ c.admit-admitted.ensures)) in
    elim c.if-self-date.branch [
      | then-self-date w ↦ met-turned u s _ w.turn-t.ensures (w.in_force_on-f.ensures ∙ ap (in_force_on real c.args.self.registers.slots) a.date) w.s-is w.words-is w.codes-is w.f-is
      | else-self-date w ↦ met-same u s a.passed (omega (arith, w.if-self-date.false, a.date)) c.none-codes.ensures c.in_force_on-was.ensures w.s-is w.words-is w.codes-is w.f-is
    ]

pub pulsed-requires : goal.pulsed-requires
unfolding registers_of state_with
pulsed-requires c =
    let u : Meter = meter_of c.args.self c.args.words.now in
    let m : State = state_in u in
    let s : Stamp = c.args.p.stamp in
    let a = admitted m s _ (sym (sym c.in-Ok.is ∙ c.admit-admitted.ensures)) in
    let e = met c in
    record {
      good = rw e.registers (alone-good _ (turned-good m s a.passed));
      in_force = e.in_force ∙ sym (ap (λ (x : State). in_force_on real x.slots s.date) e.registers);
      total = subst (λ (x : State). x.volumes.total.0 + c.args.p.count.0 ≤ highest_total) (sym e.registers)
          (pulses-fit m s c.args.p.count.0 (sym c.in_ok-pulse_refusal.ensures));
    }

pub returns : goal.returns
unfolding own_refusal effect_of codes_of state_with
returns c =
    let u : Meter = meter_of c.args.self c.args.words.now in
    let m : State = state_in u in
    let s : Stamp = c.args.p.stamp in
    let a = admitted m s _ (sym (sym c.in-Ok.is ∙ c.admit-admitted.ensures)) in
    let e = met (goal.at.returns c).After-pulsed-arg-2-1 in
    let t : RegistersAndCodes = record { registers = registers_of (turn real m s); codes = note_all no_codes (turn_codes real m s) } in
    accepts u (pulses c.args.p) a.passed {t = t} (sym c.in_ok-pulse_refusal.ensures) (refl, e.words, refl)
    (c.from.ensures ∙ rw (c.pulsed.ensures.registers, c.pulsed.ensures.codes, e.codes)
    (ap (λ (x : State). accepted_of (registers_of (pulsed real x c.args.p.count.0)) (note_all t.codes (pulse_codes real x c.args.p.count.0))) e.registers))
