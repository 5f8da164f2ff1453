-- What the bounds of a meter leave for the leaves of a call, before and after the day is turned.
use mathlib.Core.Path.{◌≡◌, refl, ap, ◌∙◌}
use mathlib.Core.Bool.{true, false}
use mathlib.Core.List.{List, []}
use Prim.Native.Nat.{ℕ, ◌+◌, ◌^◌, ◌≤◌, ◌<◌}
use native.Mathlib.Omega.{arith}
use lib.Dec.{leb, ltb}
use Rattle.units.specs.Volume.{highest_total}
use Rattle.units.specs.Money.{Small, highest_balance}
use Rattle.std.specs.Prelude.{Ok}
use Rattle.refusal.specs.declared.Refusal.TheVariants.{Pulses, Total}
use Rattle.refusal.proofs.Tests.{cases, split, need-both}
use borrow.Author.Tests.{le-ltb, leb-true}
use Rattle.calendar.specs.declared.Stamp.{Stamp}
use Rattle.calendar.specs.Date.{is_date}
use Rattle.calendar.proofs.Stamps.{not-before-date}
use Rattle.account.specs.Account.{highest_serial, recharge_refusal}
use Rattle.account.proofs.BoundsKept.{account-bounds, recharge-small}
use Rattle.records.specs.Turn.{HasHeadroom}
use Rattle.records.proofs.PeriodsBounds.{periods-bounds}
use Rattle.slots.specs.World.{real}
use Rattle.slots.specs.Slots.{slot_on, in_force_on, added_charge, slots_turned}
use Rattle.slots.specs.Bounds.{never_both, BothGood}
use Rattle.slots.proofs.BoundsKept.{slots-in, added-charge-cap}
use Rattle.slots.proofs.RealLaws.{real-laws}
use Rattle.records.specs.Records.{none_held}
use Rattle.records.specs.Bounds.{is_fresh_held}
use Rattle.records.proofs.BoundsKept.{fresh-held}
use Rattle.state.specs.declared.Registers.{Registers}
use Rattle.state.specs.State.{State, state_with, state_of, alone, registers_of, with_clock}
use Rattle.state.specs.Bounds.{stamp_good, no_clock, state_good, bounded}
use Rattle.state.specs.Turn.{turn, turned_to, turn_codes, turn_words}
use Rattle.state.specs.Refusals.{stamp_refusal, most_pulses, pulse_refusal}
use Rattle.state.proofs.BoundsInParts.{Parts, total-in, total-low, state-in, state-out, bounded-state}
use Rattle.state.proofs.TurnKeepsBounds.{turn-state, turn-volumes}
use Rattle.state.proofs.Admitted.{stamp-passed}

-- the bounds in parts
pub state : (m : State) → bounded real m ≡ true → Parts real m
state m h = bounded-state real m h

pub turned-state : (m : State) (s : Stamp) → stamp_refusal real m s ≡ Ok tt → Parts real (turn real m s)
turned-state m s h =
    let a = stamp-passed real m s h in
    turn-state real real-laws m s (not-before-date m.clock s a.2) (state m a.0)

-- the slots of a meter within its bounds
pub both-good : (m : State) → Parts real m → BothGood real m.slots
both-good m s = (slots-in real m.slots m.clock.date m.volumes.total.0 s.slots).good

pub slots_never_both : (m : State) → Parts real m → never_both real m.slots.slot_1 m.slots.slot_2 m.clock.date ≡ true
slots_never_both m s = (slots-in real m.slots m.clock.date m.volumes.total.0 s.slots).never_both

-- a plan in force on the clock's date: the clock has a date
pub clocked : (m : State) → bounded real m ≡ true → no_clock m.clock ≡ false → is_date m.clock.date ≡ true
unfolding bounded stamp_good
clocked m h q = (split (split (rw q at h)).0).0

-- a pulse call
pub record PulseHeadroom (m : State) (n : ℕ) : Type 0 where
  pub good : BothGood real m.slots
  pub usage : m.slots.usage.0 + n < 2 ^ 32
  pub small : Small m.account.balance.0
  pub most : added_charge real m.slots m.clock.date n < 2 ^ 62
  pub total : m.volumes.total.0 + n < 2 ^ 32
  pub unpriced : m.volumes.unpriced.0 + n < 2 ^ 32
  pub day : HasHeadroom m.periods.day n (added_charge real m.slots m.clock.date n)
  pub month : HasHeadroom m.periods.month n (added_charge real m.slots m.clock.date n)

pub pulse-headroom : (m : State) (n : ℕ) → state_good real m ≡ true → m.volumes.total.0 + n ≤ highest_total → PulseHeadroom m n
pulse-headroom m n h t =
    let s = state-in real m h in
    let a = slots-in real m.slots m.clock.date m.volumes.total.0 s.slots in
    let c = account-bounds m.account m.volumes.total.0 s.account (total-low real m s) in
    let j = periods-bounds m.volumes.total.0 m.periods s.periods in
    let added_charge = added-charge-cap real real-laws m.slots m.clock.date m.volumes.total.0 n a in
    record {
      good = a.good;
      usage = omega (arith, a.usage);
      small = c.small;
      most = omega (arith, added_charge);
      total = omega arith;
      unpriced = omega (arith, (total-in m.volumes s.volumes).1);
      day = record { volume = omega (arith, j.day_volume); charge = omega (arith, added_charge, j.day_charge) };
      month = record { volume = omega (arith, j.month_volume); charge = omega (arith, added_charge, j.month_charge) };
    }

-- after an accepted test of the count, on the turned meter
pub pulses-fit : (m : State) (s : Stamp) (n : ℕ) → pulse_refusal m.volumes n ≡ Ok tt → (turn real m s).volumes.total.0 + n ≤ highest_total
unfolding pulse_refusal
pulses-fit m s n h = rw (turn-volumes real m s) (leb-true _ _ (need-both Total {a = Ok tt} (need-both {b = leb n most_pulses} Pulses h).1).0)

pub turned-good : (m : State) (s : Stamp) → stamp_refusal real m s ≡ Ok tt → state_good real (turn real m s) ≡ true
turned-good m s h = state-out real (turn real m s) (turned-state m s h)

-- the registers after a turn, whether the day turned or not: a stamp of the clock's own date turns no day
pub turned-clock : (m : State) (s : Stamp) → with_clock (alone (registers_of (turn real m s))) s ≡ alone (registers_of (turn real m s))
unfolding turn turned_to registers_of state_with
turned-clock m s = cases (ltb m.clock.date s.date) (λ h. rw h) (λ h. rw h)

module _ (r : Registers) (words : List ℕ) (s : Stamp) (h : s.date ≤ r.clock.date) where
  pub same-day : with_clock (alone r) s ≡ alone (registers_of (turn real (state_of r words) s))
  unfolding turn registers_of state_with
  same-day = rw (le-ltb _ _ h)

  pub same_codes : turn_codes real (state_of r words) s ≡ []
  unfolding turn_codes state_with
  same_codes = rw (le-ltb _ _ h)

  pub same-words : turn_words r s words ≡ words
  unfolding turn_words
  same-words = rw (le-ltb _ _ h)

-- pulses look at no record, and without them the bounds hold too
pub alone-good : (m : State) → state_good real m ≡ true → state_good real (alone (registers_of m)) ≡ true
unfolding registers_of state_with is_fresh_held
alone-good m h =
    let p = state-in real m h in
    state-out real (alone (registers_of m)) (record {
      volumes = p.volumes;
      account = p.account;
      slots = p.slots;
      periods = p.periods;
      held = fresh-held highest_balance m.volumes.total.0 none_held none-fresh;
      without_plan = p.without_plan;
    })
  where
    none-fresh : is_fresh_held none_held ≡ true
    none-fresh = refl

-- the slot in force on the stamp's date, after the turn and before it
pub later-in-force : (m : State) (s : Stamp) → in_force_on real m.slots s.date ≡ in_force_on real (turn real m s).slots s.date
unfolding turn turned_to slots_turned slot_on
later-in-force m s = cases (ltb m.clock.date s.date) (λ h. rw h) (λ h. rw h)

pub same-in-force :
    (m : State) (s : Stamp) → stamp_refusal real m s ≡ Ok tt → s.date ≤ m.clock.date →
    in_force_on real m.slots m.clock.date ≡ in_force_on real (turn real m s).slots s.date
same-in-force m s h l =
    let e : m.clock.date ≡ s.date = omega (arith, not-before-date m.clock s (stamp-passed real m s h).2) in
    ap (in_force_on real m.slots) e ∙ later-in-force m s

-- an account within its bounds
pub small-balance : (m : State) → Parts real m → Small m.account.balance.0
small-balance m s = (account-bounds m.account m.volumes.total.0 s.account (total-low real m s)).small

pub low-serial : (m : State) → Parts real m → m.account.serial ≤ highest_serial
low-serial m s = (account-bounds m.account m.volumes.total.0 s.account (total-low real m s)).serial

pub small-amount : (m : State) (amount serial : ℕ) → Parts real m → recharge_refusal m.account amount serial ≡ Ok tt → amount ≤ 2 ^ 55
small-amount m amount serial s h = recharge-small m.account m.volumes.total.0 amount serial s.account (total-low real m s) h
