-- Demand 1: "The answer to every call, with any argument and any state of the meter, is either the new meter with its event codes or
-- one refusal number .., and a refusal changes nothing".
use Rattle.std.specs.Prelude.{◌≡◌, List, [], ◌++◌, ℕ, ◌≤◌, length, ⊤, Result, Ok, Err}
use Rattle.refusal.specs.declared.Refusal.{Refusal}
use Rattle.refusal.specs.Refusal.{next}
use Rattle.account.specs.declared.Codes.{Codes}
use Rattle.account.specs.Codes.{no_codes, note_all}
use Rattle.slots.specs.World.{World, real}
use Rattle.records.specs.Words.{word_count, no_words}
use Rattle.state.specs.State.{State, state_of, registers_of, fresh}
use Rattle.state.specs.Turn.{turn, turn_codes, turn_words}
use Rattle.meter.specs.declared.Machine.{Machine}
use Rattle.meter.specs.declared.Meter.{Meter}
use Rattle.meter.specs.declared.Accepted.{Accepted}
use Rattle.meter.specs.Call.{Call, stamp_of}
use Rattle.meter.specs.Refusals.{refusal_of}
use Rattle.meter.specs.Effects.{effect_of, codes_of}

-- the meter after an accepted call, and its codes: those of turning the day come first
unfoldable pub accepted_state : World → State → Call → State
accepted_state w m c = effect_of w (turn w m (stamp_of c)) c

unfoldable pub accepted_codes : World → State → Call → List ℕ
accepted_codes w m c = turn_codes w m (stamp_of c) ++ codes_of w (turn w m (stamp_of c)) c

-- the meter that a call leaves, refused or not, and the codes that it gives
abbrev pub state_by : Result ⊤ Refusal → State → State → State
state_by (Ok t) was is = is
state_by (Err n) was is = was

abbrev pub codes_by : Result ⊤ Refusal → List ℕ → List ℕ
codes_by (Ok t) cs = cs
codes_by (Err n) cs = []

unfoldable pub state_after : World → State → Call → State
state_after w m c = state_by (refusal_of w m c) m (accepted_state w m c)

unfoldable pub codes_given : World → State → Call → List ℕ
codes_given w m c = codes_by (refusal_of w m c) (accepted_codes w m c)

-- the most codes that a call gives: 2E, 2F, 12, 30 and 33
abbrev pub most_codes : ℕ
most_codes = 5

abbrev pub FewCodes : World → Type 0
FewCodes w = (m : State) (c : Call) → length (codes_given w m c) ≤ most_codes

-- the state of a meter as the code keeps it: the machine's registers, and the words of the held records
abbrev pub meter_of : Machine → List ℕ → Meter
meter_of a words = record { machine = a; held = words }

abbrev pub state_in : Meter → State
state_in m = state_of m.machine.registers m.held

-- a fresh meter
abbrev pub fresh_meter : Meter
fresh_meter = meter_of (record { registers = registers_of fresh }) no_words

-- the words after a call; a refusal leaves them
abbrev pub words_by : Result ⊤ Refusal → List ℕ → List ℕ → List ℕ
words_by (Ok t) was is = is
words_by (Err n) was is = was

-- what a call makes of a meter, and what it tells
pub record AfterCall : Type 0 where
  pub meter : Meter
  pub done : Result Codes Refusal

-- the codes that are told: none on a refusal
abbrev pub codes_in : Result Codes Refusal → Codes
codes_in (Ok k) = k
codes_in (Err n) = no_codes

unfoldable pub after_call : Meter → Call → AfterCall
after_call m c = record {
  meter = record {
    machine = record { registers = registers_of (state_after real (state_in m) c) };
    held = words_by (refusal_of real (state_in m) c) m.held (turn_words m.machine.registers (stamp_of c) m.held);
  };
  done = next (refusal_of real (state_in m) c) (Ok (note_all no_codes (accepted_codes real (state_in m) c)));
}

-- an answer as the machine that it leaves, a refusal the one that was, and what it tells
abbrev pub machine_by : Machine → Result Accepted Refusal → Machine
machine_by was (Ok r) = r.machine
machine_by was (Err n) = was

abbrev pub done_by : Result Accepted Refusal → Result Codes Refusal
done_by (Ok r) = Ok r.codes
done_by (Err n) = Err n

abbrev pub after_call_by : Machine → Result Accepted Refusal → List ℕ → AfterCall
after_call_by was r words = record { meter = meter_of (machine_by was r) words; done = done_by r }

-- the promise of a call: the machine and the answer that it hands back, and every word that it was lent
abbrev pub Answers : Meter → Call → Result Accepted Refusal → List ℕ → Type 0
Answers m c r words = after_call_by m.machine r words ≡ after_call m c

-- the promise says what the rules say: the state that a call leaves is document 01's, and there are as many words as before
pub record Follows (m : Meter) (c : Call) : Type 0 where
  pub state : state_in (after_call m c).meter ≡ state_after real (state_in m) c
  pub long : length (after_call m c).meter.held ≡ word_count

abbrev pub FollowsRules : Type 0
FollowsRules = (m : Meter) (c : Call) → length m.held ≡ word_count → Follows m c
