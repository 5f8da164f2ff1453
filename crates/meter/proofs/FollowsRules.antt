-- The promise of a call says what the rules say: the machine and the words that it leaves are the state after the call.
use mathlib.Core.Path.{◌≡◌, refl, sym, ◌∙◌}
use Rattle.std.specs.Prelude.{⊤, Result, Ok, Err}
use Rattle.refusal.specs.declared.Refusal.{Refusal}
use Rattle.refusal.proofs.Tests.{next-first}
use Rattle.records.specs.Records.{Held}
use Rattle.records.specs.Words.{rows, held_from, held_of, no_words}
use Rattle.slots.specs.World.{real}
use Rattle.state.specs.State.{State, state_with, registers_of, fresh}
use Rattle.state.specs.Turn.{turn}
use Rattle.state.specs.Refusals.{stamp_refusal}
use Rattle.state.proofs.Admitted.{stamp-passed}
use Rattle.state.proofs.WordsTurned.{turn-held, turn-long}
use Rattle.meter.specs.declared.Meter.{Meter}
use Rattle.meter.specs.Call.{stamp_of}
use Rattle.meter.specs.Refusals.{own_refusal, refusal_of}
use Rattle.meter.specs.Machine.{accepted_state, state_after, state_in, fresh_meter, after_call, Follows, FollowsRules}
use Rattle.meter.proofs.BoundsKept.{effect-stays}

same-state : (m : State) (h : Held) → m.held ≡ h → state_with (registers_of m) h ≡ m
unfolding state_with registers_of
same-state m h e = rw (sym e)

same-held : (m : Meter) → (state_in m).held ≡ held_of m.held
unfolding state_with
same-held m = refl

pub follows : FollowsRules
unfolding after_call state_after accepted_state refusal_of
follows m c long = go (refusal_of real (state_in m) c) refl
  where
    go : (a : Result ⊤ Refusal) → refusal_of real (state_in m) c ≡ a → Follows m c
    go (Ok tt) e =
        let r = m.machine.registers in
        let s = stamp_of c in
        let b = (stamp-passed real (state_in m) s (next-first (stamp_refusal real (state_in m) s) (own_refusal real (state_in m) c) e)).0 in
        let h = (effect-stays real (turn real (state_in m) s) c).1 ∙ turn-held r m.held s long b in
        record { state = rw e (same-state (accepted_state real (state_in m) c) _ h); long = rw e (turn-long r m.held s long) }
    go (Err n) e = record { state = rw e (same-state (state_in m) _ (same-held m)); long = rw e long }

-- a fresh meter has a fresh state
pub fresh_in : state_in fresh_meter ≡ fresh
unfolding fresh registers_of state_with held_from rows no_words
fresh_in = refl
