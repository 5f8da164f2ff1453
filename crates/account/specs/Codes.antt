-- The codes of a call: the rules give a list of numbers, and the answer holds an array of eight with a count.
use Rattle.std.specs.Prelude.{Bool, cond, List, [], ◌∷◌, ℕ, ◌+◌, ltb, set, replicate, take}
use Rattle.account.specs.declared.Codes.{Codes}
use Rattle.account.specs.declared.Event.{Event}
use Rattle.account.specs.declared.Event.TheVariants.{PlanEnded, ValveOpened, ValveClosed, Recharged, Set, Commanded, AtAlarm1, AtAlarm2, AtZero, InDebt}

-- the code of each event, in the order of the numbers but for the first, "80 02 00 12"
abbrev pub event_code : Event → ℕ
event_code PlanEnded = 0x80020012
event_code ValveOpened = 0x11
event_code ValveClosed = 0x12
event_code Recharged = 0x21
event_code Set = 0x27
event_code Commanded = 0x2B
event_code AtAlarm1 = 0x2E
event_code AtAlarm2 = 0x2F
event_code AtZero = 0x30
event_code InDebt = 0x33

-- how many an answer holds
abbrev pub code_limit : ℕ
code_limit = 8

abbrev pub no_codes : Codes
no_codes = record { count = 0; list = replicate code_limit 0 }

-- one code more
unfoldable pub noted : Codes → ℕ → Codes
noted k c = cond (ltb k.count code_limit) (record { count = k.count + 1; list = set k.list k.count c }) k

-- a list of codes after those that are there
unfoldable pub note_all : Codes → List ℕ → Codes
note_all k [] = k
note_all k (c ∷ cs) = note_all (noted k c) cs

-- a code where `given` holds
abbrev pub code_if : Bool → ℕ → List ℕ
code_if given code = cond given (code ∷ []) []

-- the codes as a list
abbrev pub told : Codes → List ℕ
told k = take k.count k.list
