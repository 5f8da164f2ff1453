-- After k turns the first k numbers, each with a space behind it, stand at the start.
use Rattle.std.proofs.Common.{◌≡◌, ◌*◌, length, take}
use Rattle.text.specs.Written.{Written}
use Rattle.text.proofs.Lines.{trailed}
use Rattle.text.proofs.put_numbers.Given as goal

abbrev pub invariant-loop-x : goal.invariant-loop-x
invariant-loop-x l = record {
  same : length l.out ≡ length l.fn.out;
  put : Written (trailed (take l.x-index l.v)) (l.x-index * 21) l.fn.out l.at l.out;
}
