-- Document 01, "Pulses": "Codes, each on crossing from above, in this order: 2E balance at or below alarm 1; 2F at or below alarm 2,
-- then an open valve closes (12); 30 at or below zero, then likewise; 33 below zero."
use Rattle.std.specs.Prelude.{Bool, true, false, not, ◌&&◌, List, [], ◌∷◌, ◌++◌, ℕ, ℤ, pos}
use Rattle.std.specs.Int.Signed.{le_z, lt_z}
use Rattle.units.specs.Money.{of_yuan}
use Rattle.account.specs.declared.Account.{Account}
use Rattle.account.specs.declared.Crossing.{Crossing}
use Rattle.account.specs.declared.Codes.{Codes}
use Rattle.account.specs.declared.Event.TheVariants.{AtAlarm1, AtAlarm2, AtZero, InDebt}
use Rattle.account.specs.Codes.{event_code, code_if, note_all}
use Rattle.account.specs.Valve.{closing}

-- a threshold: its code, whether an open valve closes on it, and which balances are at or below it
pub record Threshold : Type 0 where
  pub code : ℕ
  pub closes : Bool
  pub below : ℤ → Bool

-- the four thresholds of an account
unfoldable pub thresholds : Account → List Threshold
thresholds a =
    record { code = event_code AtAlarm1; closes = false; below = λ z. le_z z (pos (of_yuan a.alarm_1)) }
    ∷ record { code = event_code AtAlarm2; closes = true; below = λ z. le_z z (pos (of_yuan a.alarm_2)) }
    ∷ record { code = event_code AtZero; closes = true; below = λ z. le_z z (pos 0) }
    ∷ record { code = event_code InDebt; closes = false; below = λ z. lt_z z (pos 0) }
    ∷ []

-- "on crossing from above": not below at the balance before, below at the balance after
abbrev pub crossed : Threshold → ℤ → ℤ → Bool
crossed t was is = not (t.below was) && t.below is

-- the valve after one threshold, crossed or not, and the codes of it
unfoldable pub valve_after : Bool → Bool → Bool → Bool
valve_after opened hit closes = opened && not (hit && closes)

unfoldable pub threshold_codes : Bool → Bool → ℕ → Bool → List ℕ
threshold_codes opened hit code closes = code_if hit code ++ code_if (hit && (closes && opened)) closing

-- a balance that falls past the thresholds, in their order
unfoldable pub valve_past : List Threshold → ℤ → ℤ → Bool → Bool
valve_past [] was is opened = opened
valve_past (t ∷ ts) was is opened = valve_past ts was is (valve_after opened (crossed t was is) t.closes)

unfoldable pub codes_past : List Threshold → ℤ → ℤ → Bool → List ℕ
codes_past [] was is opened = []
codes_past (t ∷ ts) was is opened =
    threshold_codes opened (crossed t was is) t.code t.closes
    ++ codes_past ts was is (valve_after opened (crossed t was is) t.closes)

-- the same with the codes noted
abbrev pub past_threshold : Crossing → Bool → ℕ → Bool → Crossing
past_threshold f hit code closes = record {
  opened = valve_after f.opened hit closes;
  codes = note_all f.codes (threshold_codes f.opened hit code closes);
}

abbrev pub crossing_of : Account → ℤ → Bool → Codes → Crossing
crossing_of a is opened k = record {
  opened = valve_past (thresholds a) a.balance.0 is opened;
  codes = note_all k (codes_past (thresholds a) a.balance.0 is opened);
}
