-- The next line lies within the input.
use Rattle.std.proofs.Common.{◌-◌, ◌≤◌, length}
use Rattle.replay.proofs.Replayer.replay_lines.Given as goal

abbrev pub invariant-loop-end : goal.invariant-loop-end
invariant-loop-end g l = record {
  from : l.from ≤ l.end;
  end : l.end ≤ length l.input;
}

-- each line begins behind the one before
abbrev pub decreases-loop-end : goal.decreases-loop-end
decreases-loop-end g l = length l.input - l.from
