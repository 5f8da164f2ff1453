-- The dates of stamps in order are in order. Assumes nothing.
use mathlib.Core.Path.{◌≡◌}
use mathlib.Core.Bool.{true}
use Prim.Native.Nat.{◌≤◌}
use native.Mathlib.Omega.{arith}
use lib.Dec.{leb, ltb, eqb}
use borrow.Author.Tests.{ltb-true, eqb-true}
use Rattle.calendar.specs.Stamp.{not_before}
use Rattle.calendar.specs.declared.Stamp.{Stamp}
use Rattle.refusal.proofs.Tests.{cases, split}

pub not-before-date : (a b : Stamp) → not_before a b ≡ true → a.date ≤ b.date
unfolding not_before
not-before-date a b h =
    cases (ltb a.date b.date)
    (λ e. omega (arith, ltb-true a.date b.date e))
    (λ e.
    let p = split {a = eqb a.date b.date} {b = leb a.second b.second} (rw e at h) in
    omega (arith, eqb-true a.date b.date p.0))
