-- After each turn the lines of the records so far stand at the start of the buffer, at most `most_line` bytes each.
use Rattle.std.proofs.Common.{◌*◌, ◌≡◌, ◌≤◌, length, drop}
use Rattle.std.specs.Slice.Iter.{chunks_rest, chunks_size}
use Rattle.text.specs.Written.{Written}
use Rattle.plan_line.specs.Line.{most_line}
use Rattle.plan_line.specs.Records.{records_in, lines_to}
use Rattle.plan_line.proofs.lines.Given as goal

abbrev pub invariant-loop-record : goal.invariant-loop-record
invariant-loop-record l = record {
  size : chunks_size l.record-iterator ≡ 66;
  rest : chunks_rest l.record-iterator ≡ drop (66 * length l.yielded) l.s;
  few : length l.yielded ≤ records_in l.s;
  put : Written (lines_to l.s (length l.yielded)) (most_line * length l.yielded) l.fn.out l.at l.out;
}
