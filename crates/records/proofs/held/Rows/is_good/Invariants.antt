-- Every record that was passed is good.
use Rattle.std.proofs.Common.{◌≡◌, ℕ, ◌<◌, ◌-◌, true, get_or}
use Rattle.records.specs.Records.{no_record}
use Rattle.records.specs.Bounds.{record_good}
use Rattle.records.specs.Words.{rows_of}
use Rattle.records.proofs.held.Rows.is_good.Given as goal

abbrev pub invariant-loop-k : goal.invariant-loop-k
invariant-loop-k l = (k : ℕ) → k < l.k → record_good l.limits.top.0 l.limits.total.0 (get_or (rows_of l.self) k no_record) ≡ true

abbrev pub decreases-loop-k : goal.decreases-loop-k
decreases-loop-k l = l.n - l.k
