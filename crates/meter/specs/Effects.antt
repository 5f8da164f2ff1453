-- Document 01, "The billing machine": the effect of each call on a meter whose day is turned, and its codes.
use Rattle.std.specs.Prelude.{true, List, [], ◌∷◌, ℕ, eqb}
use Rattle.account.specs.declared.Event.TheVariants.{Recharged, Set}
use Rattle.account.specs.Codes.{event_code}
use Rattle.account.specs.Valve.{valve_set, commanded, command_codes, key_codes}
use Rattle.account.specs.Account.{recharged, alarmed}
use Rattle.plan_record.specs.PlanRecord.{read_of, plan_in}
use Rattle.slots.specs.World.{World}
use Rattle.slots.specs.Load.{slot_named, loaded}
use Rattle.state.specs.State.{State, with_account, with_slots, with_valve}
use Rattle.state.specs.Pulsed.{pulsed, pulse_codes}
use Rattle.meter.specs.Call.{Call, pulses, recharge, load, alarms, command, key, tick}

unfoldable pub effect_of : World → State → Call → State
effect_of w m (pulses p) = pulsed w m p.count.0
effect_of w m (recharge r) = with_account m (recharged m.account r.amount.0 r.serial)
effect_of w m (load l bytes) = with_slots m (loaded m.slots (slot_named l.slot) (plan_in (read_of bytes)))
effect_of w m (alarms a) = with_account m (alarmed m.account a.alarm_1 a.alarm_2)
effect_of w m (command c) = with_valve m (commanded m.valve (eqb c.code 1))
effect_of w m (key k) = with_valve m (valve_set m.valve true)
effect_of w m (tick t) = m

-- "code 21 (Table F.1)", "code 27", "code 2B", "code 11"
unfoldable pub codes_of : World → State → Call → List ℕ
codes_of w m (pulses p) = pulse_codes w m p.count.0
codes_of w m (recharge r) = event_code Recharged ∷ []
codes_of w m (load l bytes) = event_code Set ∷ []
codes_of w m (alarms a) = event_code Set ∷ []
codes_of w m (command c) = command_codes m.valve (eqb c.code 1)
codes_of w m (key k) = key_codes m.valve
codes_of w m (tick t) = []
