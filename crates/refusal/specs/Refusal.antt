-- Document 01, "Refusal by operation": refusals come in order, and the first whose condition holds is the answer.
use Rattle.std.specs.Prelude.{Bool, true, false, cond, ℕ, ⊤, Result, Ok, Err}
use Rattle.refusal.specs.declared.Refusal.{Refusal}
use Rattle.refusal.specs.declared.Refusal.TheVariants.{OutOfBounds, RecordLength, Steps, CycleWord, Digits, Dates, NoDay, NoPrice, Stamp, Earlier, Slot, InForce, Overlap, Pulses, Total, Serial, SerialAgain, SerialBelow, SerialAbove, NoAmount, Balance, Command, Key, Alarms, NoPlan, NotHeld, BufferLength, NoHeavyDay}
use Rattle.refusal.specs.declared.Acceptance.{Acceptance}

-- the number of each refusal
abbrev pub number_of : Refusal → ℕ
number_of OutOfBounds = 0
number_of RecordLength = 1
number_of Steps = 2
number_of CycleWord = 3
number_of Digits = 4
number_of Dates = 5
number_of NoDay = 6
number_of NoPrice = 7
number_of Stamp = 8
number_of Earlier = 9
number_of Slot = 10
number_of InForce = 11
number_of Overlap = 12
number_of Pulses = 13
number_of Total = 14
number_of Serial = 15
number_of SerialAgain = 16
number_of SerialBelow = 17
number_of SerialAbove = 18
number_of NoAmount = 19
number_of Balance = 20
number_of Command = 21
number_of Key = 22
number_of Alarms = 23
number_of NoPlan = 24
number_of NotHeld = 25
number_of BufferLength = 26
number_of NoHeavyDay = 27

-- a test that must hold, the error where it does not (of a call its refusal), and the answer of the tests behind it
abbrev pub need : {T E : Type 0} → Bool → E → Result T E → Result T E
need t n rest = cond t rest (Err n)

-- one answer, and the next if it accepts
abbrev pub next : {T : Type 0} → Result ⊤ Refusal → Result T Refusal → Result T Refusal
next (Ok x) k = k
next (Err n) k = Err n

-- an answer in a flat struct, as a host sees it: accepted, or the number that refuses
abbrev pub acceptance_of : {T : Type 0} → Result T Refusal → Acceptance
acceptance_of (Ok x) = record { accepted = true; refusal = 0 }
acceptance_of (Err n) = record { accepted = false; refusal = number_of n }
