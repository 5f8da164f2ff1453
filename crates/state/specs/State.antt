-- Document 01, "The billing machine": "State: clock, balance, total volume, unpriced volume, last serial, two plan slots, cycle usage,
-- alarms, station mark, valve, 62 day records .., 120 month records, the open day and month."
use Rattle.std.specs.Prelude.{List, ℕ}
use Rattle.units.specs.Volume.{volume}
use Rattle.calendar.specs.declared.Stamp.{Stamp}
use Rattle.account.specs.declared.Account.{Account}
use Rattle.account.specs.declared.Valve.{Valve}
use Rattle.account.specs.Account.{fresh_account}
use Rattle.account.specs.Valve.{fresh_valve}
use Rattle.records.specs.declared.Periods.{Periods}
use Rattle.records.specs.Records.{Held, no_periods, none_held}
use Rattle.records.specs.Words.{held_of}
use Rattle.slots.specs.declared.Slots.{Slots}
use Rattle.slots.specs.Slots.{fresh_slots}
use Rattle.state.specs.declared.Volumes.{Volumes}
use Rattle.state.specs.declared.Registers.{Registers}

-- the open day and month are `periods`, the day and month records `held`
pub record State : Type 0 where
  pub clock : Stamp
  pub account : Account
  pub slots : Slots
  pub volumes : Volumes
  pub valve : Valve
  pub periods : Periods
  pub held : Held

-- the code keeps the rest of the state as registers, and the held records as words beside them
unfoldable pub state_with : Registers → Held → State
state_with r h = record { clock = r.clock; account = r.account; slots = r.slots; volumes = r.volumes; valve = r.valve; periods = r.periods; held = h }

abbrev pub state_of : Registers → List ℕ → State
state_of r words = state_with r (held_of words)

-- of a rule that looks at no record
abbrev pub alone : Registers → State
alone r = state_with r none_held

unfoldable pub registers_of : State → Registers
registers_of m = record { clock = m.clock; account = m.account; slots = m.slots; volumes = m.volumes; valve = m.valve; periods = m.periods }

-- "Fresh: no accepted call yet, all amounts 0, no plan, alarms 20 and 5 yuan, mark "allow", valve closed."
abbrev pub no_stamp : Stamp
no_stamp = record { date = 0; second = 0 }

abbrev pub fresh_volumes : Volumes
fresh_volumes = record { total = volume 0; unpriced = volume 0 }

unfoldable pub fresh : State
fresh = record {
  clock = no_stamp;
  account = fresh_account;
  slots = fresh_slots;
  volumes = fresh_volumes;
  valve = fresh_valve;
  periods = no_periods;
  held = none_held;
}

-- one group of the state replaced
abbrev pub with_clock : State → Stamp → State
with_clock m c = record { clock = c; account = m.account; slots = m.slots; volumes = m.volumes; valve = m.valve; periods = m.periods; held = m.held }

abbrev pub with_account : State → Account → State
with_account m a = record { clock = m.clock; account = a; slots = m.slots; volumes = m.volumes; valve = m.valve; periods = m.periods; held = m.held }

abbrev pub with_slots : State → Slots → State
with_slots m s = record { clock = m.clock; account = m.account; slots = s; volumes = m.volumes; valve = m.valve; periods = m.periods; held = m.held }

abbrev pub with_volumes : State → Volumes → State
with_volumes m v = record { clock = m.clock; account = m.account; slots = m.slots; volumes = v; valve = m.valve; periods = m.periods; held = m.held }

abbrev pub with_valve : State → Valve → State
with_valve m v = record { clock = m.clock; account = m.account; slots = m.slots; volumes = m.volumes; valve = v; periods = m.periods; held = m.held }

-- the open day and month, and the held records
abbrev pub with_records : State → Periods → Held → State
with_records m p h = record { clock = m.clock; account = m.account; slots = m.slots; volumes = m.volumes; valve = m.valve; periods = p; held = h }
