-- Document 01, "Days in force and cycles": "Cycles: n = 1 or word 04, the whole time in force; 01 calendar month; 02 quarter from
-- January, April, July, October; 03 year; 05 runs of N days from the first cycle day, the dates before that day being one cycle."
use Rattle.std.specs.Prelude.{ℕ}
use Rattle.calendar.specs.declared.Cycle.{Cycle}
use Rattle.calendar.specs.declared.Cycle.TheVariants.{Runs}
use Rattle.calendar.specs.Cycle.{cycle_start, run_of}
use Rattle.plan.specs.declared.Plan.{Plan}
use Rattle.plan.specs.Plan.{cycle}

-- the cycle that a date lies in, by a number that tells the plan's cycles apart; `cycle_start` is 0 for those of one cycle
abbrev pub cycle_by : Cycle → Plan → ℕ → ℕ
cycle_by Runs p d = run_of p.extra_1 p.extra_2 d
cycle_by c p d = cycle_start c d

unfoldable pub cycle_of : Plan → ℕ → ℕ
cycle_of p d = cycle_by (cycle p) p d
