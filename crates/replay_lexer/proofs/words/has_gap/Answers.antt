-- A space behind a space is a gap; any other byte leaves the rest to be looked through.
use Rattle.std.proofs.Common.{◌≡◌, ℕ, List, Bool, ◌<◌, ◌+◌, ◌&&◌, ◌||◌, length, get_or, drop, eqb, refl, arith, add-one, drop-cons}
use Rattle.std.proofs.lemmas.Grind.{common_steps}
use lib.Seq.{drop-length}
use Rattle.replay_lexer.specs.Words.{gap_after, has_gap}
use Rattle.replay_lexer.proofs.words.has_gap.Goals as goal
use Rattle.replay_lexer.proofs.words.has_gap.Goals.{else-space-via-then-space+else-next, else-space-via-else-space}

here : (t : Bool) (s : List ℕ) (i : ℕ) → i < length s → gap_after t (drop i s) ≡ ((t && eqb (get_or s i 0) 32) || gap_after (eqb (get_or s i 0) 32) (drop (i + 1) s))
unfolding gap_after
here t s i h = rw (add-one, drop-cons s i 0 h)

pub loop-x-init : goal.loop-x-init
unfolding has_gap
loop-x-init c = refl

pub returns-then-next : goal.returns-then-next
returns-then-next c = let e = here c.loop-x.space c.args.s.now c.loop-x.x-index (omega arith) in grind (arith, common_steps, e, c.loop-x.invariant)

pub loop-x-preserved : goal.loop-x-preserved
loop-x-preserved c =
    let e = here c.loop-x.space c.args.s.now c.loop-x.x-index (omega arith) in
    elim c.else-space.branch [
      | else-space-via-then-space+else-next w ↦ grind (arith, common_steps, e, c.loop-x.invariant)
      | else-space-via-else-space w ↦ grind (arith, common_steps, e, c.loop-x.invariant)
    ]

pub returns : goal.returns
unfolding gap_after
returns c =
    let s = c.args.s.now in
    let end : c.loop-x.x-index ≡ length s = omega arith in
    rw (end, drop-length) at c.loop-x.invariant
