-- Document 01, "Plan record (Table C.1)": the fields of a plan, and which of them are read.
use Rattle.std.specs.Prelude.{Bool, true, false, cond, List, [], ◌∷◌, ℕ, ltb, get_or, replicate}
use Rattle.units.specs.Volume.{volume, price}
use Rattle.calendar.specs.declared.Cycle.{Cycle}
use Rattle.calendar.specs.declared.Cycle.TheVariants.{Window, Runs}
use Rattle.calendar.specs.Cycle.{cycle_named}
use Rattle.plan.specs.declared.Plan.{Plan}

-- "six pairs of volume 4 and price 4"
abbrev pub most_steps : ℕ
most_steps = 6

abbrev pub six : {A : Type 0} → (ℕ → A) → List A
six f = f 0 ∷ f 1 ∷ f 2 ∷ f 3 ∷ f 4 ∷ f 5 ∷ []

-- volume and price of pair i, counted from 0
abbrev pub width_at : Plan → ℕ → ℕ
width_at p i = (get_or p.widths i (volume 0)).0

abbrev pub price_at : Plan → ℕ → ℕ
price_at p i = (get_or p.prices i (price 0)).0

-- "With n = 1 the cycle word isn't read": the word as it is read, 0 where it is not
unfoldable pub cycle_word : Plan → ℕ
cycle_word p = cond (ltb p.steps 2) 0 p.word

-- the cycle that it says
abbrev pub cycle : Plan → Cycle
cycle p = cycle_named (cycle_word p)

-- "The extra fields are read only for words 04 (window start, window end) and 05 (first cycle day, days in a cycle), n at least 2."
abbrev pub two_more : Cycle → Bool
two_more Window = true
two_more Runs = true
two_more _ = false

unfoldable pub has_extra : Plan → Bool
has_extra p = two_more (cycle p)

-- "Pairs beyond n aren't read."
abbrev pub kept : {A : Type 0} → Plan → List A → A → ℕ → A
kept p xs none i = cond (ltb i p.steps) (get_or xs i none) none

-- "A plan is its read fields: two that agree there are the same plan." The same plan with zero in every field that is not read.
unfoldable pub cleared : Plan → Plan
cleared p = record {
  start = p.start;
  end = p.end;
  steps = p.steps;
  word = cycle_word p;
  extra_1 = cond (has_extra p) p.extra_1 0;
  extra_2 = cond (has_extra p) p.extra_2 0;
  widths = six (kept p p.widths (volume 0));
  prices = six (kept p p.prices (price 0));
}

-- no plan: all fields zero
unfoldable pub no_plan : Plan
no_plan = record {
  start = 0;
  end = 0;
  steps = 0;
  word = 0;
  extra_1 = 0;
  extra_2 = 0;
  widths = replicate most_steps (volume 0);
  prices = replicate most_steps (price 0);
}
