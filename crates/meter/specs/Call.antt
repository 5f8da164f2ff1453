-- The seven calls, each with its arguments and its stamp; a plan's record is any list of bytes.
use Rattle.std.specs.Prelude.{List, ℕ}
use Rattle.calendar.specs.declared.Stamp.{Stamp}
use Rattle.meter.specs.declared.Pulses.{Pulses}
use Rattle.meter.specs.declared.Recharge.{Recharge}
use Rattle.meter.specs.declared.Load.{Load}
use Rattle.meter.specs.declared.Alarms.{Alarms}
use Rattle.meter.specs.declared.Command.{Command}
use Rattle.meter.specs.declared.Key.{Key}
use Rattle.meter.specs.declared.Tick.{Tick}
use Rattle.meter.specs.declared.Call.{Call as Asked}
use Rattle.meter.specs.declared.Call.TheVariants.{Pulses as AskPulses, Recharge as AskRecharge, Load as AskLoad, Alarms as AskAlarms, Command as AskCommand, Key as AskKey, Tick as AskTick}

pub data Call : Type 0 where
  pulses : Pulses → Call
  recharge : Recharge → Call
  load : Load → List ℕ → Call
  alarms : Alarms → Call
  command : Command → Call
  key : Key → Call
  tick : Tick → Call

abbrev pub stamp_of : Call → Stamp
stamp_of (pulses p) = p.stamp
stamp_of (recharge r) = r.stamp
stamp_of (load l bytes) = l.stamp
stamp_of (alarms a) = a.stamp
stamp_of (command c) = c.stamp
stamp_of (key k) = k.stamp
stamp_of (tick t) = t.stamp

-- a call of the code, with the bytes lent beside it
abbrev pub call_of : Asked → List ℕ → Call
call_of (AskPulses p) bytes = pulses p
call_of (AskRecharge p) bytes = recharge p
call_of (AskLoad p) bytes = load p bytes
call_of (AskAlarms p) bytes = alarms p
call_of (AskCommand p) bytes = command p
call_of (AskKey p) bytes = key p
call_of (AskTick p) bytes = tick p
