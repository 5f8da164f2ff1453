-- What a call answers, by its refusal: the laws with which the proofs of the calls end.
use mathlib.Core.Path.{◌≡◌, refl, ◌∙◌}
use mathlib.Core.List.{List}
use Prim.Native.Nat.{ℕ}
use Rattle.std.specs.Prelude.{⊤, Result, Ok, Err, MatchResult}
use Rattle.refusal.specs.declared.Refusal.{Refusal}
use Rattle.refusal.specs.Refusal.{next}
use Rattle.account.proofs.CodesNoted.{note-append}
use Rattle.slots.specs.World.{World, real}
use Rattle.state.specs.declared.RegistersAndCodes.{RegistersAndCodes}
use Rattle.state.specs.State.{State, state_with, alone, registers_of}
use Rattle.state.specs.Turn.{turn, Turned}
use Rattle.state.specs.Pulsed.{pulsed, pulse_codes}
use Rattle.state.specs.Refusals.{stamp_refusal}
use Rattle.state.specs.Course.{Ran}
use Rattle.meter.specs.declared.Meter.{Meter}
use Rattle.meter.specs.declared.Accepted.{Accepted}
use Rattle.meter.specs.Call.{Call, pulses, recharge, load, alarms, command, key, tick, stamp_of}
use Rattle.meter.specs.Refusals.{own_refusal, refusal_of}
use Rattle.meter.specs.Effects.{effect_of, codes_of}
use Rattle.meter.specs.Machine.{accepted_state, accepted_codes, state_after, state_in, after_call, Answers}
use Rattle.meter.specs.Accepted.{effect_by}

-- the refusal of a call whose stamp is admitted is its own, in any world
pub refusal-own : (w : World) (s : State) (c : Call) → stamp_refusal w s (stamp_of c) ≡ Ok tt → refusal_of w s c ≡ own_refusal w s c
unfolding refusal_of
refusal-own w s c h = rw h

-- neither effect nor codes look at a record
call-alone : (m : State) (c : Call) → let r = alone (registers_of m) in
    (registers_of (effect_of real r c) ≡ registers_of (effect_of real m c)) × (codes_of real r c ≡ codes_of real m c)
unfolding effect_of codes_of pulsed pulse_codes registers_of state_with
call-alone m (pulses p) = (refl, refl)
call-alone m (recharge r) = (refl, refl)
call-alone m (load l bytes) = (refl, refl)
call-alone m (alarms a) = (refl, refl)
call-alone m (command c) = (refl, refl)
call-alone m (key k) = (refl, refl)
call-alone m (tick t) = (refl, refl)

module _ (m : Meter) (c : Call) where
  -- refused: machine and words stand as they were
  refused : (n : Refusal) → refusal_of real (state_in m) c ≡ Err n → Answers m c (Err n) m.held
  unfolding after_call state_after registers_of state_with
  refused n h = rw h

  -- by its stamp
  pub not-admitted : {n : Refusal} → Err n ≡ next (stamp_refusal real (state_in m) (stamp_of c)) (Ok (stamp_of c).date) → Answers m c (Err n) m.held
  unfolding refusal_of
  not-admitted {n} h = refused n (go (stamp_refusal real (state_in m) (stamp_of c)) h)
    where
      go : (a : Result ⊤ Refusal) → Err n ≡ next a (Ok (stamp_of c).date) → next a (own_refusal real (state_in m) c) ≡ Err n
      go (Ok t) h = cc
      go (Err i) h = cc

  -- admitted by its stamp
  module _ (passed : stamp_refusal real (state_in m) (stamp_of c) ≡ Ok tt) where
    -- refused by a test of the call's own
    pub denied : {n : Refusal} → own_refusal real (state_in m) c ≡ Err n → Answers m c (Err n) m.held
    denied {n} h = refused n (refusal-own real (state_in m) c passed ∙ h)

    -- accepted: the effect on the turned registers, its codes noted behind those of the turn
    pub accepts : {t : RegistersAndCodes} {r : Accepted} {words : List ℕ} → own_refusal real (state_in m) c ≡ Ok tt →
        Turned m.machine.registers m.held (stamp_of c) t words → r ≡ effect_by t c → Answers m c (Ok r) words
    unfolding after_call state_after accepted_state accepted_codes
    accepts {t} {r} {words} own q i =
        let h : refusal_of real (state_in m) c ≡ Ok tt = refusal-own real (state_in m) c passed ∙ own in
        let s = turn real (state_in m) (stamp_of c) in
        let a = call-alone s c in
        rw (i, q.0, q.1, q.2, h, a.0, a.1, note-append)

  -- by the course of the call, where its own test tells its own refusals, and its effect is that of the call
  pub answered : {T : Type 0} (own : Result T Refusal → Type 0) (effect : RegistersAndCodes → T → Accepted → Type 0) (r : Result Accepted Refusal) {words : List ℕ} →
      Ran m.machine.registers m.held (stamp_of c) own effect r words → ((n : Refusal) → own (Err n) → own_refusal real (state_in m) c ≡ Err n) →
      ((x : T) → own (Ok x) → own_refusal real (state_in m) c ≡ Ok tt) → ((x : T) (t : RegistersAndCodes) (o : Accepted) → own (Ok x) → effect t x o → o ≡ effect_by t c) →
      Answers m c r words
  unfolding refusal_of
  answered own effect (Ok o) (x, t, p, e) h i j = accepts p.stamp (i x p.told) p.turned (j x t o p.told e)
  answered own effect (Err n) b h i j = rw b.0 (refused n (go (stamp_refusal real (state_in m) (stamp_of c)) b.1))
    where
      go : (a : Result ⊤ Refusal) → MatchResult a (λ _. own (Err n)) (λ k. n ≡ k) → next a (own_refusal real (state_in m) c) ≡ Err n
      go (Ok t) e = h n e
      go (Err k) e = cc

  -- where its own test tells nothing but its refusals
  pub answered_by : (own : Result ⊤ Refusal → Type 0) (effect : RegistersAndCodes → ⊤ → Accepted → Type 0) (r : Result Accepted Refusal) {words : List ℕ} →
      Ran m.machine.registers m.held (stamp_of c) own effect r words → ((a : Result ⊤ Refusal) → own a → own_refusal real (state_in m) c ≡ a) →
      ((t : RegistersAndCodes) (o : Accepted) → effect t tt o → o ≡ effect_by t c) → Answers m c r words
  answered_by own effect r h i j = answered own effect r h (λ n e. i (Err n) e) (λ x e. i (Ok x) e) (λ x t o e f. j t o f)
