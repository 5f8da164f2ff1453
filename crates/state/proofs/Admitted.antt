-- What admission tells of a stamp.
use mathlib.Core.Path.{◌≡◌}
use mathlib.Core.Bool.{true}
use Prim.Native.Nat.{ℕ}
use Rattle.std.specs.Prelude.{Ok}
use Rattle.refusal.specs.declared.Refusal.TheVariants.{OutOfBounds, Stamp as BadStamp, Earlier}
use Rattle.refusal.specs.Refusal.{next}
use Rattle.refusal.proofs.Tests.{split, need-both, next_both}
use Rattle.calendar.specs.declared.Stamp.{Stamp}
use Rattle.calendar.specs.Stamp.{not_before}
use Rattle.slots.specs.World.{World, real}
use Rattle.state.specs.State.{State}
use Rattle.state.specs.Bounds.{stamp_good, bounded}
use Rattle.state.specs.Refusals.{stamp_refusal}

-- what admission tells, in any world: within bounds, a good stamp, and not before the clock
pub stamp-passed :
    (w : World) (m : State) (s : Stamp) → stamp_refusal w m s ≡ Ok tt →
    (bounded w m ≡ true) × (stamp_good w s ≡ true) × (not_before m.clock s ≡ true)
unfolding stamp_refusal
stamp-passed w m s h =
    let a = need-both OutOfBounds h in
    let b = need-both BadStamp a.1 in
    (a.0, b.0, (need-both Earlier {a = Ok tt} b.1).0)

pub stamp-date : (w : World) (s : Stamp) → stamp_good w s ≡ true → w.date s.date ≡ true
unfolding stamp_good
stamp-date w s h = (split h).0

-- an admitted stamp
pub record Admitted (m : State) (s : Stamp) (d : ℕ) : Type 0 where
  pub passed : stamp_refusal real m s ≡ Ok tt
  pub date : d ≡ s.date
  pub bounds : bounded real m ≡ true

pub admitted : (m : State) (s : Stamp) (d : ℕ) → next (stamp_refusal real m s) (Ok s.date) ≡ Ok d → Admitted m s d
admitted m s d h =
    let a = next_both {a = stamp_refusal real m s} {b = Ok s.date} h in
    record { passed = a.0; date = cc; bounds = (stamp-passed real m s a.0).0 }
