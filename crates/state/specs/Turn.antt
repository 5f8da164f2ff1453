-- Document 01, "Each accepted call first turns the day."
use Rattle.std.specs.Prelude.{◌≡◌, cond, List, [], ℕ}
use Rattle.calendar.specs.declared.Stamp.{Stamp}
use Rattle.calendar.specs.Stamp.{later_date}
use Rattle.account.specs.Codes.{no_codes, note_all}
use Rattle.account.specs.Valve.{valve_kept, expiry_codes}
use Rattle.records.specs.Turn.{opened, closed}
use Rattle.records.specs.Moves.{closed_words}
use Rattle.slots.specs.World.{World, real}
use Rattle.slots.specs.Slots.{any_in_force, slots_turned}
use Rattle.state.specs.declared.Registers.{Registers}
use Rattle.state.specs.declared.RegistersAndCodes.{RegistersAndCodes}
use Rattle.state.specs.State.{State, state_of, registers_of, with_clock, with_slots, with_valve, with_records}
use Rattle.state.specs.Bounds.{no_clock}

-- a later date: the open day becomes a record, and a later month likewise; usage is kept or begins at 0; with no plan in force an open
-- valve closes. "The first accepted call turns no day; it opens its day and month."
unfoldable pub turned_to : World → State → Stamp → State
turned_to w m s =
    with_clock (with_slots (with_valve (with_records m
    (cond (no_clock m.clock) m.periods (opened m.periods m.clock.date s.date))
    (cond (no_clock m.clock) m.held (closed m.held m.periods m.clock.date s.date m.account.balance)))
    (valve_kept m.valve (any_in_force w m.slots s.date)))
    (slots_turned w m.slots m.clock.date s.date))
    s

-- "If its date is later than the clock's ..; then the clock takes the stamp."
unfoldable pub turn : World → State → Stamp → State
turn w m s = cond (later_date m.clock s) (turned_to w m s) (with_clock m s)

unfoldable pub turn_codes : World → State → Stamp → List ℕ
turn_codes w m s =
    cond (later_date m.clock s)
    (expiry_codes (any_in_force w m.slots m.clock.date) (any_in_force w m.slots s.date) m.valve.opened) []

-- the words that hold the records, after the turn
unfoldable pub turn_words : Registers → Stamp → List ℕ → List ℕ
turn_words r s h =
    cond (later_date r.clock s)
    (cond (no_clock r.clock) h (closed_words r.periods r.clock.date s.date r.account.balance h)) h

-- the promise of a turn: the registers and the codes that it hands back, and every word that it was lent
abbrev pub Turned : Registers → List ℕ → Stamp → RegistersAndCodes → List ℕ → Type 0
Turned r h s t words =
    (t.registers ≡ registers_of (turn real (state_of r h) s)) × (words ≡ turn_words r s h) ×
    (t.codes ≡ note_all no_codes (turn_codes real (state_of r h) s))
