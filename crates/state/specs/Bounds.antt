-- Document 01, "Bounds of a meter": the test behind refusal 0.
use Rattle.std.specs.Prelude.{Bool, cond, ◌&&◌, leb, eqb}
use Rattle.units.specs.Volume.{highest_total}
use Rattle.units.specs.Money.{highest_balance}
use Rattle.calendar.specs.declared.Stamp.{Stamp}
use Rattle.calendar.specs.Stamp.{stamp_by}
use Rattle.account.specs.Account.{account_good, is_fresh_account}
use Rattle.account.specs.Valve.{is_fresh_valve}
use Rattle.records.specs.Bounds.{periods_good, held_good, is_fresh_periods, is_fresh_held}
use Rattle.slots.specs.World.{World}
use Rattle.slots.specs.Bounds.{slots_good, without_plan_good, is_fresh_slots}
use Rattle.state.specs.declared.Volumes.{Volumes}
use Rattle.state.specs.State.{State}

-- a date of the world and a second of the day: refusal 8
unfoldable pub stamp_good : World → Stamp → Bool
stamp_good w s = stamp_by w.date s

-- no accepted call yet
abbrev pub no_clock : Stamp → Bool
no_clock s = eqb s.date 0

unfoldable pub is_fresh_volumes : Volumes → Bool
is_fresh_volumes v = eqb v.total.0 0 && eqb v.unpriced.0 0

-- "without a clock it is the fresh one": every group at its fresh values
unfoldable pub is_fresh : State → Bool
is_fresh m =
    eqb m.clock.second 0 && (is_fresh_account m.account && (is_fresh_slots m.slots && (is_fresh_volumes m.volumes
    && (is_fresh_valve m.valve && (is_fresh_periods m.periods && is_fresh_held m.held)))))

-- "total is at most 99,999,999, every other volume .. at most the total"
unfoldable pub volumes_good : Volumes → Bool
volumes_good v = leb v.total.0 highest_total && leb v.unpriced.0 v.total.0

-- "last serial, alarms and loaded plans are as the refusals allow, no date from the clock's on has both plans in force" and the rest.
-- The open day and month are the clock's: they hold no date of their own.
unfoldable pub state_good : World → State → Bool
state_good w m =
    volumes_good m.volumes && (account_good m.account m.volumes.total.0
    && (slots_good w m.slots m.clock.date m.volumes.total.0
    && (periods_good m.volumes.total.0 m.periods && (held_good highest_balance m.volumes.total.0 m.held
    && without_plan_good w m.slots m.valve.opened m.clock.date))))

-- "without a clock it is the fresh one. Otherwise clock .. as the refusals allow" and the state within its bounds
unfoldable pub bounded : World → State → Bool
bounded w m = cond (no_clock m.clock) (is_fresh m) (stamp_good w m.clock && state_good w m)
