-- The bounds of a meter in parts, and that a fresh meter is within them.
use mathlib.Core.Path.{◌≡◌}
use mathlib.Core.Bool.{true, false}
use Prim.Native.Nat.{◌≤◌}
use native.Mathlib.Omega.{arith}
use lib.Dec.{eqb}
use borrow.Author.Tests.{leb-true, le-leb, eqb-true, ne_eqb, not-true}
use Rattle.units.specs.Volume.{highest_total}
use Rattle.units.specs.Money.{highest_balance}
use Rattle.refusal.proofs.Tests.{cases, never, split, and_left, and_right}
use Rattle.account.specs.declared.Valve.{Valve}
use Rattle.account.specs.Account.{account_good}
use Rattle.account.specs.Valve.{is_fresh_valve}
use Rattle.account.proofs.BoundsKept.{fresh-account}
use Rattle.records.specs.Bounds.{periods_good, held_good}
use Rattle.records.proofs.BoundsKept.{fresh-periods, fresh-held}
use Rattle.slots.specs.World.{World}
use Rattle.slots.specs.Laws.{Laws}
use Rattle.slots.specs.Slots.{any_in_force}
use Rattle.slots.specs.Bounds.{slots_good, without_plan_good, is_fresh_slots}
use Rattle.slots.proofs.BoundsKept.{fresh-slots, unloaded, without-plan-in as without_plan-in-slots, without-plan-out as without_plan-out-slots}
use Rattle.state.specs.declared.Volumes.{Volumes}
use Rattle.state.specs.State.{State}
use Rattle.state.specs.Bounds.{stamp_good, no_clock, is_fresh_volumes, is_fresh, volumes_good, state_good, bounded}

pub total-in : (v : Volumes) → volumes_good v ≡ true → (v.total.0 ≤ highest_total) × (v.unpriced.0 ≤ v.total.0)
unfolding volumes_good
total-in v h = let a = split h in (leb-true _ _ a.0, leb-true _ _ a.1)

pub total-out : (v : Volumes) → v.total.0 ≤ highest_total → v.unpriced.0 ≤ v.total.0 → volumes_good v ≡ true
unfolding volumes_good
total-out v h k = rw (le-leb _ _ h, le-leb _ _ k)

fresh-volumes : (v : Volumes) → is_fresh_volumes v ≡ true → volumes_good v ≡ true
unfolding is_fresh_volumes
fresh-volumes v h =
    let a = split h in
    let t : v.total.0 ≡ 0 = eqb-true _ _ a.0 in
    let u : v.unpriced.0 ≡ 0 = eqb-true _ _ a.1 in
    total-out v (omega arith) (omega arith)

closed-valve : (v : Valve) → is_fresh_valve v ≡ true → v.opened ≡ false
unfolding is_fresh_valve
closed-valve v h = not-true _ (and_right v.allow _ h)

module _ (w : World) where
  -- the parts of `state_good`
  pub record Parts (m : State) : Type 0 where
    pub volumes : volumes_good m.volumes ≡ true
    pub account : account_good m.account m.volumes.total.0 ≡ true
    pub slots : slots_good w m.slots m.clock.date m.volumes.total.0 ≡ true
    pub periods : periods_good m.volumes.total.0 m.periods ≡ true
    pub held : held_good highest_balance m.volumes.total.0 m.held ≡ true
    pub without_plan : without_plan_good w m.slots m.valve.opened m.clock.date ≡ true

  pub state-in : (m : State) → state_good w m ≡ true → Parts m
  unfolding state_good
  state-in m h =
      let a = split h in
      let b = split a.1 in
      let c = split b.1 in
      let d = split c.1 in
      let e = split d.1 in
      record { volumes = a.0; account = b.0; slots = c.0; periods = d.0; held = e.0; without_plan = e.1 }

  pub state-out : (m : State) → Parts m → state_good w m ≡ true
  unfolding state_good
  state-out m s = rw (s.volumes, s.account, s.slots, s.periods, s.held, s.without_plan)

  -- the total is at most the highest
  pub total-low : (m : State) → Parts m → m.volumes.total.0 ≤ highest_total
  total-low m s = (total-in m.volumes s.volumes).0

  -- with no plan in force the usage is 0 and the valve closed
  pub without-plan-in : (m : State) → Parts m → any_in_force w m.slots m.clock.date ≡ false → (m.slots.usage.0 ≡ 0) × (m.valve.opened ≡ false)
  without-plan-in m s h = without_plan-in-slots w m.slots m.valve.opened m.clock.date s.without_plan h

  pub without-plan-out : (m : State) → (any_in_force w m.slots m.clock.date ≡ false → (m.slots.usage.0 ≡ 0) × (m.valve.opened ≡ false)) →
      without_plan_good w m.slots m.valve.opened m.clock.date ≡ true
  without-plan-out m h = without_plan-out-slots w m.slots m.valve.opened m.clock.date h

  -- fresh values are within the bounds
  pub fresh-parts : (m : State) → is_fresh m ≡ true → Parts m × (is_fresh_slots m.slots ≡ true)
  unfolding is_fresh
  fresh-parts m h =
      let a = split (and_right (eqb m.clock.second 0) _ h) in
      let s = split a.1 in
      let v = split s.1 in
      let o = split v.1 in
      let p = split o.1 in (
        record {
          volumes = fresh-volumes m.volumes v.0;
          account = fresh-account m.account m.volumes.total.0 a.0;
          slots = fresh-slots w m.slots m.clock.date m.volumes.total.0 s.0;
          periods = fresh-periods highest_balance m.volumes.total.0 m.periods p.0;
          held = fresh-held highest_balance m.volumes.total.0 m.held p.1;
          without_plan = without-plan-out m (λ f. ((unloaded w m.slots s.0).usage, closed-valve m.valve o.0));
        },
        s.0,
      )

  -- a meter within its bounds, with a clock or without one
  pub bounded-state : (m : State) → bounded w m ≡ true → Parts m
  unfolding bounded
  bounded-state m h = cases (no_clock m.clock) (λ t. (fresh-parts m (rw t at h)).0) (λ t. state-in m (and_right (stamp_good w m.clock) _ (rw t at h)))

-- a meter with a good clock and a good state is within its bounds
pub state-bounded : (w : World) (L : Laws w) (m : State) → stamp_good w m.clock ≡ true → Parts w m → bounded w m ≡ true
unfolding bounded stamp_good
state-bounded w L m h s =
    let q : eqb m.clock.date 0 ≡ false = ne_eqb m.clock.date 0 (λ e. never (rw e at (and_left (w.date m.clock.date) _ h)) L.no-date) in
    rw (q, h, state-out w m s)
