-- Laws of the account's bounds for the layers above: what they tell, and that charges, accepted recharges and alarms keep them.
-- Assumes nothing.
use mathlib.Core.Path.{◌≡◌}
use mathlib.Core.Bool.{true, false}
use Prim.Native.Nat.{ℕ, ◌+◌, ◌*◌, ◌^◌, ◌≤◌, ◌<◌}
use native.Mathlib.Omega.{arith}
use borrow.Author.Differences.{ints}
use borrow.Author.Tests.{leb-true, ltb-true, le-leb, eqb-true, eqb-false, not-true}
use lib.Dec.{ltb, eqb}
use lib.IntN.{pos, ◌+ℤ◌}
use lib.Signed.{le_z, lt_z}
use Rattle.units.specs.Volume.{highest_price, highest_total}
use Rattle.units.specs.Money.{Small, in_bounds, in_millionths, highest_balance}
use Rattle.units.proofs.Balance.{are-bounds, in_small, debit-in, credit-in}
use Rattle.std.specs.Prelude.{Ok}
use Rattle.refusal.specs.declared.Refusal.TheVariants.{Serial, SerialAgain, SerialBelow, SerialAbove, NoAmount, Balance}
use Rattle.refusal.proofs.Tests.{split, need-both}
use Rattle.account.specs.declared.Account.{Account}
use Rattle.account.specs.Account.{highest_serial, highest_alarm, recharge_refusal, recharged, alarms_good, alarmed, charged, account_good, is_fresh_account}

-- the bounds in parts, both ways
record Parts (a : Account) (total : ℕ) : Type 0 where
  serial : a.serial ≤ highest_serial
  alarms : alarms_good a.alarm_1 a.alarm_2 ≡ true
  bounds : in_bounds highest_balance a.balance.0 total ≡ true

good-parts : (a : Account) (total : ℕ) → account_good a total ≡ true → Parts a total
unfolding account_good
good-parts a total e =
    let s = split e in
    let r = split s.1 in
    record { serial = leb-true _ _ s.0; alarms = r.0; bounds = r.1 }

parts-good : (a : Account) (total : ℕ) → Parts a total → account_good a total ≡ true
unfolding account_good
parts-good a total p = rw (le-leb a.serial highest_serial p.serial, p.alarms) p.bounds

-- the alarms in order, and at most 999,999
pub alarms-order : (alarm_1 alarm_2 : ℕ) → alarms_good alarm_1 alarm_2 ≡ true → (alarm_2 < alarm_1) × (alarm_1 ≤ highest_alarm)
unfolding alarms_good
alarms-order alarm_1 alarm_2 e = let o = split (split {a = ltb 0 alarm_2} e).1 in (ltb-true alarm_2 alarm_1 o.0, leb-true alarm_1 highest_alarm o.1)

-- what the bounds of an account tell a caller
pub record AccountBounds (a : Account) (total : ℕ) : Type 0 where
  pub small : Small a.balance.0
  pub serial : a.serial ≤ highest_serial
  pub alarm_1 : a.alarm_1 ≤ highest_alarm
  pub alarm_2 : a.alarm_2 ≤ highest_alarm
  pub bounds : in_bounds highest_balance a.balance.0 total ≡ true
  pub alarms : alarms_good a.alarm_1 a.alarm_2 ≡ true

-- an account in its bounds has them
pub account-bounds : (a : Account) (total : ℕ) → account_good a total ≡ true → total ≤ highest_total → AccountBounds a total
account-bounds a total e h =
    let p = good-parts a total e in
    let o = alarms-order a.alarm_1 a.alarm_2 p.alarms in
    record {
      small = in_small highest_balance a.balance.0 total (omega arith) h p.bounds;
      serial = p.serial;
      alarm_1 = o.1;
      alarm_2 = omega arith;
      bounds = p.bounds;
      alarms = p.alarms;
    }

-- a charge of n more hundredths keeps the bounds
pub charged-good : (a : Account) (total n added_charge : ℕ) → added_charge ≤ n * highest_price → account_good a total ≡ true → account_good (charged a added_charge) (total + n) ≡ true
charged-good a total n added_charge h e =
    let p = good-parts a total e in
    parts-good (charged a added_charge) (total + n)
    (record { serial = p.serial; alarms = p.alarms; bounds = debit-in highest_balance a.balance.0 total n added_charge h p.bounds })

-- the tests that an accepted recharge has passed
pub record RechargeTests (a : Account) (amount serial : ℕ) : Type 0 where
  pub low : 1 ≤ serial
  pub high : serial ≤ highest_serial
  pub next : serial ≡ a.serial + 1
  pub some : 1 ≤ amount
  pub takes : le_z (a.balance.0 +ℤ pos (in_millionths amount)) (pos highest_balance) ≡ true

-- an accepted recharge has passed them
pub recharge-tests : (a : Account) (amount serial : ℕ) → recharge_refusal a amount serial ≡ Ok tt → RechargeTests a amount serial
unfolding recharge_refusal
recharge-tests a amount serial e =
    let v15 = need-both Serial e in
    let v16 = need-both SerialAgain v15.1 in
    let v17 = need-both SerialBelow v16.1 in
    let v18 = need-both SerialAbove v17.1 in
    let v19 = need-both NoAmount v18.1 in
    let range = split v15.0 in
    let other : serial ≡ a.serial → ⊥ = eqb-false _ _ (not-true (eqb serial a.serial) v16.0) in
    record {
      low = leb-true _ _ range.0;
      high = leb-true _ _ range.1;
      next = omega (arith, leb-true a.serial serial v17.0, leb-true serial (a.serial + 1) v18.0);
      some = leb-true _ _ v19.0;
      takes = (need-both Balance v19.1).0;
    }

-- an accepted recharge keeps the bounds
pub recharged-good : (a : Account) (total amount serial : ℕ) → recharge_refusal a amount serial ≡ Ok tt → account_good a total ≡ true
    → account_good (recharged a amount serial) total ≡ true
recharged-good a total amount serial r e =
    let p = good-parts a total e in
    let v = recharge-tests a amount serial r in
    parts-good (recharged a amount serial) total
    (record { serial = v.high; alarms = p.alarms; bounds = credit-in highest_balance a.balance.0 total (in_millionths amount) v.takes p.bounds })

-- the amount of an accepted recharge fits
pub recharge-small : (a : Account) (total amount serial : ℕ) → account_good a total ≡ true → total ≤ highest_total → recharge_refusal a amount serial ≡ Ok tt
    → amount ≤ 2 ^ 55
recharge-small a total amount serial e h r =
    let v = recharge-tests a amount serial r in
    let bounds = account-bounds a total e h in
    omega (arith, ints, v.takes, bounds.small)

-- new alarms keep the bounds
pub alarmed-good : (a : Account) (total alarm_1 alarm_2 : ℕ) → alarms_good alarm_1 alarm_2 ≡ true → account_good a total ≡ true → account_good (alarmed a alarm_1 alarm_2) total ≡ true
alarmed-good a total alarm_1 alarm_2 g e =
    let p = good-parts a total e in
    parts-good (alarmed a alarm_1 alarm_2) total (record { serial = p.serial; alarms = g; bounds = p.bounds })

-- a fresh account is within its bounds
pub fresh-account : (a : Account) (total : ℕ) → is_fresh_account a ≡ true → account_good a total ≡ true
unfolding is_fresh_account alarms_good
fresh-account a total h =
    let z = a.balance.0 in
    let low = split h in
    let high = split low.1 in
    let s = split high.1 in
    let o = split s.1 in
    let e : a.serial ≡ 0 = eqb-true _ _ s.0 in
    let p : le_z z (pos 0) ≡ true = low.0 in
    let q : lt_z z (pos 0) ≡ false = not-true _ high.0 in
    parts-good a total (record {
      serial = omega arith;
      alarms = rw (eqb-true a.alarm_1 20 o.0, eqb-true a.alarm_2 5 o.1);
      bounds = are-bounds highest_balance z total (omega (arith, ints)) (omega (arith, ints));
    })
