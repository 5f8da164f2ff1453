-- Document 01, "Days in force and cycles": "A plan is in force from start to end; with word 04 only on dates also in its window."
use Rattle.std.specs.Prelude.{Bool, true, ◌&&◌, ℕ, min, max, ltb, leb}
use Rattle.calendar.specs.declared.Cycle.{Cycle}
use Rattle.calendar.specs.declared.Cycle.TheVariants.{Window}
use Rattle.plan.specs.declared.Plan.{Plan}
use Rattle.plan.specs.Plan.{cycle}

-- "Periods include their first date and not their last"
abbrev pub in_period : ℕ → ℕ → ℕ → Bool
in_period from to d = leb from d && ltb d to

abbrev pub in_window : Cycle → Plan → ℕ → Bool
in_window Window p d = in_period p.extra_1 p.extra_2 d
in_window _ p d = true

unfoldable pub in_force : Plan → ℕ → Bool
in_force p d = in_period p.start p.end d && in_window (cycle p) p d

-- the first date in force, and the first one after it that is not
abbrev pub first_by : Cycle → Plan → ℕ
first_by Window p = max p.start p.extra_1
first_by _ p = p.start

unfoldable pub first_day : Plan → ℕ
first_day p = first_by (cycle p) p

abbrev pub end_by : Cycle → Plan → ℕ
end_by Window p = min p.end p.extra_2
end_by _ p = p.end

unfoldable pub end_day : Plan → ℕ
end_day p = end_by (cycle p) p

-- "12, a date on or after it is in force under both": the later of the beginnings lies before the earlier of the ends
unfoldable pub both_in_force : Plan → Plan → ℕ → Bool
both_in_force p q d = ltb (max d (max (first_day p) (first_day q))) (min (end_day p) (end_day q))
