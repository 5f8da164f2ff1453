-- Document 01: the station mark, "allow" or "forbid", and the valve, open or closed.
use Rattle.std.specs.Prelude.{Bool, true, false, not, ◌&&◌, List, ◌∷◌, ◌++◌, ℕ}
use Rattle.account.specs.declared.Valve.{Valve}
use Rattle.account.specs.declared.Event.TheVariants.{PlanEnded, ValveOpened, ValveClosed, Commanded}
use Rattle.account.specs.Codes.{event_code, code_if}

-- "an open valve closes (12)"
abbrev pub closing : ℕ
closing = event_code ValveClosed

abbrev pub valve_set : Valve → Bool → Valve
valve_set v b = record { allow = v.allow; opened = b }

-- open only where it was and `still` holds
abbrev pub valve_kept : Valve → Bool → Valve
valve_kept v still = record { allow = v.allow; opened = v.opened && still }

-- "If a plan was in force on the old date and none is on the new, code 80 02 00 12; with none in force an open valve closes, code 12."
unfoldable pub expiry_codes : Bool → Bool → Bool → List ℕ
expiry_codes was is opened =
    code_if (was && not is) (event_code PlanEnded) ++ code_if (opened && not is) closing

-- "Station command: 0 sets mark "forbid", code 2B, an open valve closes (12); 1 sets "allow", code 2B."
abbrev pub commanded : Valve → Bool → Valve
commanded v allow = record { allow = allow; opened = v.opened && allow }

unfoldable pub command_codes : Valve → Bool → List ℕ
command_codes v allow = event_code Commanded ∷ code_if (v.opened && not allow) closing

-- "Key: a closed valve opens, code 11; an open one stays, no code."
unfoldable pub key_codes : Valve → List ℕ
key_codes v = code_if (not v.opened) (event_code ValveOpened)

-- "Fresh: .. mark "allow", valve closed."
abbrev pub fresh_valve : Valve
fresh_valve = record { allow = true; opened = false }

unfoldable pub is_fresh_valve : Valve → Bool
is_fresh_valve v = v.allow && not v.opened
