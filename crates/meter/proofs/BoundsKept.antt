-- Each accepted call keeps the bounds: a meter grown from a fresh one by calls never breaks them. Shown of any world that keeps the laws.
use mathlib.Core.Path.{◌≡◌, refl, sym, ap, ◌∙◌}
use mathlib.Core.Bool.{Bool, true, ◌&&◌}
use Prim.Native.Nat.{◌+◌, ◌≤◌}
use lib.Dec.{leb, eqb}
use lib.IntN.{pos}
use lib.Signed.{lt_z}
use borrow.Author.Tests.{leb-true}
use Rattle.units.specs.Volume.{highest_total}
use Rattle.std.specs.Prelude.{Ok}
use Rattle.refusal.specs.declared.Refusal.TheVariants.{Pulses, Total, Key, Alarms}
use Rattle.refusal.proofs.Tests.{never, and_right, need-first, need-both, next-first, next-rest}
use Rattle.calendar.specs.declared.Stamp.{Stamp}
use Rattle.calendar.specs.Stamp.{not_before}
use Rattle.calendar.proofs.Stamps.{not-before-date}
use Rattle.account.specs.declared.Account.{Account}
use Rattle.account.specs.Account.{alarms_good, account_good, is_fresh_account}
use Rattle.account.specs.Valve.{is_fresh_valve}
use Rattle.account.proofs.BoundsKept.{recharged-good, alarmed-good}
use Rattle.records.specs.Bounds.{is_fresh_periods, is_fresh_held}
use Rattle.plan.specs.declared.Plan.{Plan}
use Rattle.plan_record.specs.PlanRecord.{read_of, plan_in}
use Rattle.slots.specs.World.{World}
use Rattle.slots.specs.Laws.{Laws}
use Rattle.slots.specs.Slots.{any_in_force}
use Rattle.slots.specs.declared.SlotName.{SlotName}
use Rattle.slots.specs.Load.{slot_named, loaded}
use Rattle.slots.specs.Bounds.{is_fresh_slots}
use Rattle.slots.proofs.BoundsKept.{slots-in, slots-out, MayLoad, loads, slots-loaded, none-loaded}
use Rattle.state.specs.State.{State, fresh, with_account, with_slots}
use Rattle.state.specs.Bounds.{stamp_good, bounded, is_fresh, is_fresh_volumes}
use Rattle.state.specs.Turn.{turn}
use Rattle.state.specs.Refusals.{stamp_refusal, most_pulses, pulse_refusal, key_allowed}
use Rattle.state.specs.Pulsed.{pulsed}
use Rattle.state.proofs.Admitted.{stamp-passed}
use Rattle.state.proofs.BoundsInParts.{Parts, bounded-state, state-bounded, without-plan-in, without-plan-out}
use Rattle.state.proofs.TurnKeepsBounds.{turn-state, turn-clock, turn-account, turn-volumes, turn-in-force, turn-load}
use Rattle.state.proofs.PulsesKeepBounds.{pulsed-state}
use Rattle.meter.specs.Call.{Call, pulses, recharge, load, alarms, command, key, tick, stamp_of}
use Rattle.meter.specs.Refusals.{own_refusal, refusal_of}
use Rattle.meter.specs.Effects.{effect_of}
use Rattle.meter.specs.Machine.{accepted_state}
use Rattle.meter.proofs.AnswersByRefusal.{refusal-own}

module _ (w : World) where
  -- an effect keeps the clock, and touches no held record
  pub effect-stays : (m : State) (c : Call) → ((effect_of w m c).clock ≡ m.clock) × ((effect_of w m c).held ≡ m.held)
  unfolding effect_of pulsed
  effect-stays m (pulses p) = (refl, refl)
  effect-stays m (recharge r) = (refl, refl)
  effect-stays m (load l bytes) = (refl, refl)
  effect-stays m (alarms a) = (refl, refl)
  effect-stays m (command c) = (refl, refl)
  effect-stays m (key k) = (refl, refl)
  effect-stays m (tick t) = (refl, refl)

  -- the clock takes the stamp
  pub accepted-state-clock : (m : State) (c : Call) → (accepted_state w m c).clock ≡ stamp_of c
  unfolding accepted_state
  accepted-state-clock m c = (effect-stays (turn w m (stamp_of c)) c).0 ∙ turn-clock w m (stamp_of c)

  -- what an accepted call has passed
  pub record Passed (m : State) (c : Call) : Type 0 where
    pub bounds : bounded w m ≡ true
    pub stamp : stamp_good w (stamp_of c) ≡ true
    pub onward : not_before m.clock (stamp_of c) ≡ true
    pub own : own_refusal w m c ≡ Ok tt

  pub passed : (m : State) (c : Call) → refusal_of w m c ≡ Ok tt → Passed m c
  unfolding refusal_of
  passed m c h =
      let p = stamp-passed w m (stamp_of c) (next-first (stamp_refusal w m (stamp_of c)) (own_refusal w m c) h) in
      record { bounds = p.0; stamp = p.1; onward = p.2; own = next-rest (stamp_refusal w m (stamp_of c)) (own_refusal w m c) h }

  -- and the other way
  pub pass : (m : State) (c : Call) → Passed m c → refusal_of w m c ≡ Ok tt
  unfolding stamp_refusal
  pass m c p = refusal-own w m c (rw (p.bounds, p.stamp, p.onward)) ∙ p.own

  -- a fresh meter is within its bounds
  pub fresh-bounded : bounded w fresh ≡ true
  unfolding bounded is_fresh is_fresh_account is_fresh_slots is_fresh_volumes is_fresh_valve is_fresh_periods is_fresh_held fresh
  fresh-bounded = refl

module _ (w : World) (L : Laws w) where
  -- a load
  load-state : (m : State) (k : SlotName) (p : Plan) → MayLoad w m.slots m.clock.date k p → w.good p ≡ true → Parts w m →
      Parts w (with_slots m (loaded m.slots k p))
  unfolding loaded
  load-state m k p l y i =
      let d = m.clock.date in
      let t = m.volumes.total.0 in
      record {
        volumes = i.volumes;
        account = i.account;
        slots = slots-out w (loaded m.slots k p) d t (slots-loaded w L m.slots d t k p l y (slots-in w m.slots d t i.slots));
        periods = i.periods;
        held = i.held;
        without_plan = without-plan-out w (with_slots m (loaded m.slots k p)) (λ f.
            let z = without-plan-in w m i (none-loaded w L m.slots d k p l f) in (z.0, z.1));
      }

  -- another account
  account-state : (m : State) (a : Account) → account_good a m.volumes.total.0 ≡ true → Parts w m → Parts w (with_account m a)
  account-state m a g i = record { volumes = i.volumes; account = g; slots = i.slots; periods = i.periods; held = i.held; without_plan = i.without_plan }

  -- any call that its own tests let pass
  effect-state : (m : State) (c : Call) → own_refusal w m c ≡ Ok tt → Parts w (turn w m (stamp_of c)) → Parts w (effect_of w (turn w m (stamp_of c)) c)
  unfolding own_refusal effect_of pulse_refusal key_allowed
  effect-state m (pulses p) h i =
      let t : m.volumes.total.0 + p.count.0 ≤ highest_total = leb-true _ _ (need-both Total {a = Ok tt} (need-both {b = leb p.count.0 most_pulses} Pulses h).1).0 in
      pulsed-state w L (turn w m p.stamp) p.count.0 (rw (turn-volumes w m p.stamp) t) i
  effect-state m (recharge r) h i =
      let t = turn w m r.stamp in
      account-state t _ (recharged-good t.account t.volumes.total.0 r.amount.0 r.serial (rw (turn-account w m r.stamp) h) i.account) i
  effect-state m (load c bytes) h i =
      let t = turn w m c.stamp in
      let l = loads w t.slots t.clock.date c.slot (read_of bytes) (turn-load w m c.stamp c.slot (read_of bytes) ∙ h) in
      load-state t (slot_named c.slot) (plan_in (read_of bytes)) l.may_load (L.read-good bytes (rw l.read)) i
  effect-state m (alarms a) h i =
      let t = turn w m a.stamp in
      account-state t _ (alarmed-good t.account t.volumes.total.0 a.alarm_1 a.alarm_2 (need-first (alarms_good a.alarm_1 a.alarm_2) Alarms (Ok tt) h) i.account) i
  effect-state m (command c) h i = record {
    volumes = i.volumes;
    account = i.account;
    slots = i.slots;
    periods = i.periods;
    held = i.held;
    without_plan = without-plan-out w (effect_of w (turn w m c.stamp) (command c)) (λ f.
        let z = without-plan-in w (turn w m c.stamp) i f in
        (z.0, ap (λ (b : Bool). b && eqb c.code 1) z.1));
  }
  effect-state m (key k) h i =
      let d = k.stamp.date in
      let e = lt_z (pos 0) m.account.balance.0 && any_in_force w m.slots d in
      let a : (m.valve.allow && e) ≡ true = need-first (m.valve.allow && e) Key (Ok tt) h in
      let f : any_in_force w m.slots d ≡ true = and_right (lt_z (pos 0) m.account.balance.0) (any_in_force w m.slots d) (and_right m.valve.allow e a) in
      record {
        volumes = i.volumes;
        account = i.account;
        slots = i.slots;
        periods = i.periods;
        held = i.held;
        without_plan = without-plan-out w (effect_of w (turn w m k.stamp) (key k)) (λ g.
            absurd (never f (sym (turn-in-force w m k.stamp d) ∙ ap (λ (s : Stamp). any_in_force w (turn w m k.stamp).slots s.date) (sym (turn-clock w m k.stamp)) ∙ g)));
      }
  effect-state m (tick t) h i = i

  -- an accepted call leaves a meter within its bounds
  pub kept : (m : State) (c : Call) → refusal_of w m c ≡ Ok tt → bounded w (accepted_state w m c) ≡ true
  unfolding accepted_state
  kept m c h =
      let p = passed w m c h in
      let j = not-before-date m.clock (stamp_of c) p.onward in
      state-bounded w L (accepted_state w m c) (rw (accepted-state-clock w m c) p.stamp) (effect-state m c p.own (turn-state w L m (stamp_of c) j (bounded-state w m p.bounds)))
