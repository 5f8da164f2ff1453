-- What a call of the code answers where it is accepted, and what its effect makes of registers whose day is turned.
use Rattle.account.specs.declared.Codes.{Codes}
use Rattle.account.specs.Codes.{note_all}
use Rattle.slots.specs.World.{real}
use Rattle.state.specs.declared.Registers.{Registers}
use Rattle.state.specs.declared.RegistersAndCodes.{RegistersAndCodes}
use Rattle.state.specs.State.{alone, registers_of}
use Rattle.meter.specs.declared.Accepted.{Accepted}
use Rattle.meter.specs.Call.{Call}
use Rattle.meter.specs.Effects.{effect_of, codes_of}

-- new registers, and the codes
abbrev pub accepted_of : Registers → Codes → Accepted
accepted_of r k = record { machine = record { registers = r }; codes = k }

-- the effect of a call on the turned registers; no effect looks at a record
abbrev pub effect_by : RegistersAndCodes → Call → Accepted
effect_by t c = accepted_of (registers_of (effect_of real (alone t.registers) c)) (note_all t.codes (codes_of real (alone t.registers) c))
