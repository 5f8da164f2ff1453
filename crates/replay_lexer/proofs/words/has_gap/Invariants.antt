-- Up to here there is no gap, so there is one where there is one from here on.
use Rattle.std.proofs.Common.{◌≡◌, drop}
use Rattle.replay_lexer.specs.Words.{gap_after, has_gap}
use Rattle.replay_lexer.proofs.words.has_gap.Given as goal

abbrev pub invariant-loop-x : goal.invariant-loop-x
invariant-loop-x l = gap_after l.space (drop l.x-index l.s) ≡ has_gap l.s
