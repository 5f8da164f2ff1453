-- What is held fits the input.
use Rattle.std.proofs.Common.{◌≤◌}
use Rattle.replay.specs.Headroom.{capacity}
use Rattle.replay.proofs.Replayer.replay_all.Given as goal

abbrev pub invariant-loop : goal.invariant-loop
invariant-loop g l = l.held ≤ capacity
