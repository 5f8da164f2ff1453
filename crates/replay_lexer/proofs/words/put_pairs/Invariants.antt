-- Before turn i the first i pairs stand as bytes at the start.
use Rattle.std.proofs.Common.{◌≡◌, take, map}
use Rattle.std.specs.List.{range_with_len}
use Rattle.replay_lexer.specs.Hex.{pair_at}
use Rattle.replay_lexer.proofs.words.put_pairs.Given as goal

abbrev pub invariant-loop-i : goal.invariant-loop-i
invariant-loop-i l = take l.i l.byte-items ≡ map (pair_at l.w) (range_with_len 0 l.i)
