-- Pulses keep the bounds. Shown of any world that keeps the laws.
use mathlib.Core.Path.{◌≡◌, refl, sym, ap, ◌∙◌}
use mathlib.Core.Bool.{Bool, true, false, cond}
use mathlib.Core.List.{List, [], ◌∷◌}
use Prim.Native.Nat.{ℕ, ◌+◌, ◌≤◌}
use native.Mathlib.Omega.{arith}
use lib.IntN.{ℤ}
use Rattle.units.specs.Volume.{highest_total}
use Rattle.units.specs.Money.{highest_balance}
use Rattle.account.specs.Thresholds.{Threshold, thresholds, valve_after, valve_past}
use Rattle.account.proofs.BoundsKept.{charged-good}
use Rattle.records.proofs.BoundsKept.{counted-good, held_grown}
use Rattle.slots.specs.World.{World}
use Rattle.slots.specs.Laws.{Laws}
use Rattle.slots.specs.Slots.{used}
use Rattle.slots.proofs.BoundsKept.{slots-in, slots-out, slots-used, in-force-used, added-charge-cap}
use Rattle.state.specs.State.{State}
use Rattle.state.specs.Pulsed.{grown, priced, pulse_charge, pulsed}
use Rattle.state.proofs.BoundsInParts.{Parts, total-in, total-out, without-plan-in, without-plan-out}

unpriced-low : (b : Bool) (u n total : ℕ) → u ≤ total → cond b u (u + n) ≤ total + n
unpriced-low true u n total h = omega arith
unpriced-low false u n total h = omega arith

closed-stays : (ts : List Threshold) (was is : ℤ) → valve_past ts was is false ≡ false
unfolding valve_past valve_after
closed-stays [] was is = refl
closed-stays (t ∷ ts) was is = closed-stays ts was is

module _ (w : World) (L : Laws w) where
  pub pulsed-state : (m : State) (n : ℕ) → m.volumes.total.0 + n ≤ highest_total → Parts w m → Parts w (pulsed w m n)
  unfolding pulsed grown used
  pulsed-state m n h i =
      let t = m.volumes.total.0 in
      let d = m.clock.date in
      let a = slots-in w m.slots d t i.slots in
      let c = added-charge-cap w L m.slots d t n a in
      let p = priced w m in
      record {
        volumes = total-out (grown m.volumes p n) h (unpriced-low p m.volumes.unpriced.0 n t (total-in m.volumes i.volumes).1);
        account = charged-good m.account t n (pulse_charge w m n) c i.account;
        slots = slots-out w (used m.slots p n) d (t + n) (slots-used w m.slots p d n t a);
        periods = counted-good highest_balance t n (pulse_charge w m n) m.periods c i.periods;
        held = held_grown highest_balance t n m.held i.held;
        without_plan = without-plan-out w (pulsed w m n) (λ f.
            let none : p ≡ false = sym (in-force-used w m.slots p n d) ∙ f in
            let z = without-plan-in w m i none in (
              rw none z.0,
              ap (valve_past (thresholds m.account) m.account.balance.0 _) z.1 ∙ closed-stays (thresholds m.account) m.account.balance.0 _,
            ));
      }
