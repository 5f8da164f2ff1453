-- The words after the turn of the day hold the records that the rule says.
use mathlib.Core.Path.{◌≡◌, sym}
use mathlib.Core.Bool.{true}
use mathlib.Core.List.{List}
use Prim.Native.Nat.{ℕ, ◌^◌, ◌<◌}
use native.Mathlib.Omega.{arith}
use lib.Dec.{ltb}
use lib.ListN.{length}
use lib.Signed.{mag}
use Rattle.refusal.proofs.Tests.{cases}
use Rattle.calendar.specs.declared.Stamp.{Stamp}
use Rattle.calendar.proofs.Days.{real as real-date}
use Rattle.records.specs.Words.{word_count, held_of}
use Rattle.records.proofs.AfterTurn.{closed-held, closed-long}
use Rattle.slots.specs.World.{real}
use Rattle.state.specs.declared.Registers.{Registers}
use Rattle.state.specs.State.{state_with, state_of}
use Rattle.state.specs.Bounds.{no_clock, bounded}
use Rattle.state.specs.Turn.{turn, turned_to, turn_words}
use Rattle.state.proofs.Headroom.{state, clocked, small-balance}

module _ (r : Registers) (words : List ℕ) (s : Stamp) (long : length words ≡ word_count) where
  pub turn-long : length (turn_words r s words) ≡ word_count
  unfolding turn_words state_with
  turn-long = cases (ltb r.clock.date s.date)
      (λ l. rw l (cases (no_clock r.clock)
      (λ t. rw t long)
      (λ t. rw t (closed-long r.periods r.clock.date s.date r.account.balance words long))))
      (λ l. rw l long)

  pub turn-held : bounded real (state_of r words) ≡ true → (turn real (state_of r words) s).held ≡ held_of (turn_words r s words)
  unfolding turn turned_to turn_words state_with
  turn-held h = cases (ltb r.clock.date s.date)
      (λ l. rw l (cases (no_clock r.clock)
      (λ t. rw t)
      (λ t.
      let low : r.clock.date < 2 ^ 32 = omega (arith, (real-date r.clock.date (clocked (state_of r words) h t)).to) in
      let small : mag r.account.balance.0 < 2 ^ 63 = omega (arith, small-balance (state_of r words) (state (state_of r words) h)) in
      rw t (sym (closed-held r.periods r.clock.date s.date r.account.balance words long low small)))))
      (λ l. rw l)
