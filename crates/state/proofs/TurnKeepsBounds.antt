-- Turning the day: what it leaves, and that it keeps the bounds. Shown of any world that keeps the laws.
use mathlib.Core.Path.{◌≡◌, sym, ◌∙◌, subst}
use mathlib.Core.Bool.{true, false}
use Prim.Native.Nat.{ℕ, ◌≤◌}
use native.Mathlib.Omega.{arith}
use lib.Dec.{ltb}
use borrow.Author.Tests.{ltb-false}
use Rattle.units.specs.Money.{highest_balance}
use Rattle.refusal.proofs.Tests.{cases, and-false}
use Rattle.calendar.specs.declared.Stamp.{Stamp}
use Rattle.account.proofs.BoundsKept.{account-bounds}
use Rattle.records.proofs.BoundsKept.{opened-good, closed-good}
use Rattle.std.specs.Prelude.{Result}
use Rattle.refusal.specs.declared.Refusal.{Refusal}
use Rattle.plan.specs.declared.Plan.{Plan}
use Rattle.slots.specs.World.{World}
use Rattle.slots.specs.Laws.{Laws}
use Rattle.slots.specs.Slots.{any_in_force, plan_on, slot_on, slots_turned}
use Rattle.slots.specs.Load.{in_force_refusal, load_refusal}
use Rattle.slots.specs.Bounds.{slots_good, without_plan_good}
use Rattle.slots.proofs.BoundsKept.{slots-in, slots-out, slots-turned, in-force-turned, no-usage}
use Rattle.state.specs.State.{State}
use Rattle.state.specs.Bounds.{no_clock}
use Rattle.state.specs.Turn.{turned_to, turn}
use Rattle.state.proofs.BoundsInParts.{Parts, total-low, without-plan-out}

-- what the turn leaves
module _ (w : World) (m : State) (s : Stamp) where
  pub turn-clock : (turn w m s).clock ≡ s
  unfolding turn turned_to
  turn-clock = cases (ltb m.clock.date s.date) (λ t. rw t) (λ t. rw t)

  pub turn-account : (turn w m s).account ≡ m.account
  unfolding turn turned_to
  turn-account = cases (ltb m.clock.date s.date) (λ t. rw t) (λ t. rw t)

  pub turn-volumes : (turn w m s).volumes ≡ m.volumes
  unfolding turn turned_to
  turn-volumes = cases (ltb m.clock.date s.date) (λ t. rw t) (λ t. rw t)

  pub turn-in-force : (d : ℕ) → any_in_force w (turn w m s).slots d ≡ any_in_force w m.slots d
  unfolding turn turned_to slots_turned any_in_force plan_on slot_on
  turn-in-force d = cases (ltb m.clock.date s.date) (λ t. rw t) (λ t. rw t)

  pub turn-load : (k : ℕ) (r : Result Plan Refusal) → load_refusal w (turn w m s).slots (turn w m s).clock.date k r ≡ load_refusal w m.slots s.date k r
  unfolding turn turned_to slots_turned load_refusal in_force_refusal
  turn-load k r = cases (ltb m.clock.date s.date) (λ t. rw t) (λ t. rw t)

module _ (w : World) (L : Laws w) where
  turned-state : (m : State) (s : Stamp) → m.clock.date ≤ s.date → Parts w m → Parts w (turned_to w m s)
  unfolding turned_to
  turned-state m s h i =
      let t = m.volumes.total.0 in
      let d = m.clock.date in
      let b = (account-bounds m.account t i.account (total-low w m i)).bounds in
      record {
        volumes = i.volumes;
        account = i.account;
        slots = slots-out w _ s.date t (slots-turned w L m.slots d s.date t h (slots-in w m.slots d t i.slots));
        periods = cases (no_clock m.clock) (λ n. rw n i.periods) (λ n. rw n (opened-good highest_balance t m.periods d s.date i.periods));
        held = cases (no_clock m.clock)
            (λ n. rw n i.held)
            (λ n. rw n (closed-good highest_balance t m.held m.periods d s.date m.account.balance i.held i.periods b));
        without_plan = without-plan-out w (turned_to w m s) (λ f.
            let none : any_in_force w m.slots s.date ≡ false = sym (in-force-turned w m.slots d s.date s.date) ∙ f in
            (no-usage w m.slots d s.date none, rw none (and-false m.valve.opened)));
      }

  pub turn-state : (m : State) (s : Stamp) → m.clock.date ≤ s.date → Parts w m → Parts w (turn w m s)
  unfolding turn
  turn-state m s h i = cases (ltb m.clock.date s.date)
      (λ t. rw t (turned-state m s h i))
      (λ t. let q : m.clock.date ≡ s.date = omega (arith, ltb-false m.clock.date s.date t) in
      rw t (record {
        volumes = i.volumes;
        account = i.account;
        slots = subst (λ (d : ℕ). slots_good w m.slots d m.volumes.total.0 ≡ true) q i.slots;
        periods = i.periods;
        held = i.held;
        without_plan = subst (λ (d : ℕ). without_plan_good w m.slots m.valve.opened d ≡ true) q i.without_plan;
      }))
