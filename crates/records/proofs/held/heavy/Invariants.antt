-- No day that was passed is heavy enough.
use Rattle.std.proofs.Common.{ℕ, ◌<◌}
use Rattle.records.specs.declared.Shelf.TheVariants.{Day}
use Rattle.records.specs.Queries.{IsHeavy}
use Rattle.records.specs.Words.{held_on}
use Rattle.records.proofs.held.heavy.Given as goal

abbrev pub invariant-loop-place : goal.invariant-loop-place
invariant-loop-place l = (k : ℕ) → k < l.place → IsHeavy (held_on Day l.h) l.v.0 k → ⊥
