-- Document 01: balance, last serial and alarms. "Recharge (ten-thousandths and a serial)", "Alarms (whole yuan)", and their bounds.
use Rattle.std.specs.Prelude.{Bool, not, ◌&&◌, ℕ, ◌+◌, leb, ltb, eqb, pos, ⊤, Result, Ok}
use Rattle.std.specs.Int.Signed.{le_z, lt_z}
use Rattle.units.specs.declared.Millionths.{Millionths}
use Rattle.units.specs.Volume.{price}
use Rattle.units.specs.Money.{money, in_millionths, credited, debited, takes, in_bounds, highest_balance}
use Rattle.refusal.specs.declared.Refusal.{Refusal}
use Rattle.refusal.specs.declared.Refusal.TheVariants.{Serial, SerialAgain, SerialBelow, SerialAbove, NoAmount, Balance}
use Rattle.refusal.specs.Refusal.{need}
use Rattle.account.specs.declared.Account.{Account}

-- the highest serial, and the highest alarm in whole yuan
abbrev pub highest_serial : ℕ
highest_serial = 65535

abbrev pub highest_alarm : ℕ
highest_alarm = 999999

-- "Fresh: .. all amounts 0, .. alarms 20 and 5 yuan": no serial yet
abbrev pub fresh_account : Account
fresh_account = record { balance = money (pos 0); serial = 0; alarm_1 = 20; alarm_2 = 5 }

-- the account with another balance
abbrev pub with_balance : Account → Millionths → Account
with_balance a b = record { balance = b; serial = a.serial; alarm_1 = a.alarm_1; alarm_2 = a.alarm_2 }

-- "15, serial 0 or above 65,535; 16, the last serial again; 17, below it; 18, more than one above; 19, amount 0; 20, balance would
-- pass 999,999.99 yuan"
unfoldable pub recharge_refusal : Account → ℕ → ℕ → Result ⊤ Refusal
recharge_refusal a amount serial =
    need (leb 1 serial && leb serial highest_serial) Serial
    (need (not (eqb serial a.serial)) SerialAgain
    (need (leb a.serial serial) SerialBelow
    (need (leb serial (a.serial + 1)) SerialAbove
    (need (leb 1 amount) NoAmount
    (need (takes highest_balance a.balance (price amount)) Balance (Ok tt))))))

-- "Recharge: balance grows"
abbrev pub recharged : Account → ℕ → ℕ → Account
recharged a amount serial = record {
  balance = credited a.balance (in_millionths amount);
  serial = serial;
  alarm_1 = a.alarm_1;
  alarm_2 = a.alarm_2;
}

-- "23, unless 0 < alarm 2 < alarm 1 and alarm 1 at most 999,999"
unfoldable pub alarms_good : ℕ → ℕ → Bool
alarms_good alarm_1 alarm_2 = ltb 0 alarm_2 && (ltb alarm_2 alarm_1 && leb alarm_1 highest_alarm)

abbrev pub alarmed : Account → ℕ → ℕ → Account
alarmed a alarm_1 alarm_2 = record { balance = a.balance; serial = a.serial; alarm_1 = alarm_1; alarm_2 = alarm_2 }

-- "the balance falls by"
abbrev pub charged : Account → ℕ → Account
charged a added_charge = with_balance a (debited a.balance added_charge)

-- "last serial, alarms .. are as the refusals allow", and the balance in its bounds
unfoldable pub account_good : Account → ℕ → Bool
account_good a total =
    leb a.serial highest_serial && (alarms_good a.alarm_1 a.alarm_2 && in_bounds highest_balance a.balance.0 total)

-- the account of a fresh meter; its balance is 0
unfoldable pub is_fresh_account : Account → Bool
is_fresh_account a =
    le_z a.balance.0 (pos 0) && (not (lt_z a.balance.0 (pos 0))
    && (eqb a.serial fresh_account.serial && (eqb a.alarm_1 fresh_account.alarm_1 && eqb a.alarm_2 fresh_account.alarm_2)))
