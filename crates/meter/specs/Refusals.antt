-- Document 01, "Refusal by operation": the refusals of each call, in their order.
use Rattle.std.specs.Prelude.{◌||◌, eqb, ⊤, Result, Ok}
use Rattle.refusal.specs.declared.Refusal.{Refusal}
use Rattle.refusal.specs.declared.Refusal.TheVariants.{Command, Key, Alarms}
use Rattle.refusal.specs.Refusal.{need, next}
use Rattle.account.specs.Account.{recharge_refusal, alarms_good}
use Rattle.plan_record.specs.PlanRecord.{read_of}
use Rattle.slots.specs.World.{World}
use Rattle.slots.specs.Load.{load_refusal}
use Rattle.state.specs.State.{State}
use Rattle.state.specs.Refusals.{stamp_refusal, pulse_refusal, key_allowed}
use Rattle.meter.specs.Call.{Call, pulses, recharge, load, alarms, command, key, tick, stamp_of}

-- the call's own
unfoldable pub own_refusal : World → State → Call → Result ⊤ Refusal
own_refusal w m (pulses p) = pulse_refusal m.volumes p.count.0
own_refusal w m (recharge r) = recharge_refusal m.account r.amount.0 r.serial
own_refusal w m (load l bytes) = load_refusal w m.slots l.stamp.date l.slot (read_of bytes)
own_refusal w m (alarms a) = need (alarms_good a.alarm_1 a.alarm_2) Alarms (Ok tt)
own_refusal w m (command c) = need (eqb c.code 0 || eqb c.code 1) Command (Ok tt)
own_refusal w m (key k) = need (key_allowed w m k.stamp.date) Key (Ok tt)
own_refusal w m (tick t) = Ok tt

unfoldable pub refusal_of : World → State → Call → Result ⊤ Refusal
refusal_of w m c = next (stamp_refusal w m (stamp_of c)) (own_refusal w m c)
