-- After the last turn all pairs stand there.
use Rattle.std.proofs.Common.{ℕ, ◌≡◌, ◌/◌, length, length-take, map, take, arith, sym, ◌∙◌}
use Rattle.std.proofs.lemmas.List.{take_more_set}
use Rattle.std.proofs.lemmas.List.FromFn.{map-range_with_len_more}
use lib.Seq.{take_all}
use Rattle.std.specs.List.{range_with_len}
use Rattle.text.specs.Decimal.{starting_with}
use Rattle.replay_lexer.specs.Hex.{pair_at, bytes_of}
use Rattle.replay_lexer.proofs.WordLengths.{bytes-length}
use Rattle.replay_lexer.proofs.words.put_pairs.Goals as goal

pub loop-i-preserved : goal.loop-i-preserved
loop-i-preserved c =
    let i = c.loop-i.i in
    rw (take_more_set c.loop-i.byte-items i c.pair_at.result (omega arith), c.loop-i.invariant, c.pair_at.ensures, map-range_with_len_more (pair_at c.args.w.now) 0 i i (omega arith))

pub returns : goal.returns
unfolding bytes_of starting_with
returns c =
    let w = c.args.w.now in
    let end : c.loop-i.i ≡ length w / 2 = omega (arith, length-take {A = ℕ}) in
    let all : take c.loop-i.i c.loop-i.byte-items ≡ c.loop-i.byte-items = take_all _ _ (omega arith) in
    let bytes : c.loop-i.byte-items ≡ map (pair_at w) (range_with_len 0 (length w / 2)) = sym all ∙ c.loop-i.invariant ∙ rw end in
    record { count = sym (bytes-length w); few = omega arith; buffer = rw (bytes, bytes-length w) }
