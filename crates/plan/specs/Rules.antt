-- Document 01, "Read a plan" and "Write a plan": refusals 2 to 7. Only fields that are read are looked at, and "each is tested over
-- all fields before the next". A number above 99,999,999 stands for a field with a digit above 9, so that one test serves both.
use Rattle.std.specs.Prelude.{Bool, true, cond, ◌&&◌, ◌||◌, ℕ, ltb, leb, ⊤, Result, Ok, is_ok}
use Rattle.std.specs.List.{list_all, range_with_len}
use Rattle.calendar.specs.Date.{is_date}
use Rattle.calendar.specs.declared.Cycle.{Cycle}
use Rattle.calendar.specs.declared.Cycle.TheVariants.{Window, Runs}
use Rattle.plan.specs.declared.Plan.{Plan}
use Rattle.refusal.specs.declared.Refusal.{Refusal}
use Rattle.refusal.specs.declared.Refusal.TheVariants.{Steps, CycleWord, Digits, Dates, NoDay, NoPrice}
use Rattle.refusal.specs.Refusal.{need}
use Rattle.plan.specs.Plan.{most_steps, width_at, price_at, cycle, has_extra}

-- every k below n
unfoldable pub every : (ℕ → Bool) → ℕ → Bool
every f n = list_all f (range_with_len 0 n)

-- "2, steps byte not 01 to 06"
unfoldable pub steps_good : Plan → Bool
steps_good p = leb 1 p.steps && leb p.steps most_steps

-- "3, cycle word read and not 01 to 05"
unfoldable pub word_good : Plan → Bool
word_good p = ltb p.steps 2 || (leb 1 p.word && leb p.word 5)

-- "4, a digit above 9 in a read field"; in writing, "4 for a number above 99,999,999"
abbrev pub most_number : ℕ
most_number = 99999999

abbrev pub eight_digits : ℕ → Bool
eight_digits x = leb x most_number

abbrev pub pair_good : Plan → ℕ → Bool
pair_good p i = eight_digits (width_at p i) && eight_digits (price_at p i)

unfoldable pub numbers_good : Plan → Bool
numbers_good p =
    eight_digits p.start && (eight_digits p.end
    && (cond (has_extra p) (eight_digits p.extra_1 && eight_digits p.extra_2) true && every (pair_good p) p.steps))

-- "5, a read date not in the calendar above": start, end, both ends of the window, the first cycle day
abbrev pub extra_dates : Cycle → Plan → Bool
extra_dates Window p = is_date p.extra_1 && is_date p.extra_2
extra_dates Runs p = is_date p.extra_1
extra_dates _ p = true

unfoldable pub dates_good : Plan → Bool
dates_good p = is_date p.start && (is_date p.end && extra_dates (cycle p) p)

-- "6, no day in force, or days in a cycle 0"
abbrev pub extra_days : Cycle → Plan → Bool
extra_days Window p = ltb p.extra_1 p.extra_2 && (ltb p.start p.extra_2 && ltb p.extra_1 p.end)
extra_days Runs p = leb 1 p.extra_2
extra_days _ p = true

unfoldable pub some_day : Plan → Bool
some_day p = ltb p.start p.end && extra_days (cycle p) p

-- "7, a price of 0 among the n"
abbrev pub has_price : Plan → ℕ → Bool
has_price p i = leb 1 (price_at p i)

unfoldable pub priced : Plan → Bool
priced p = every (has_price p) p.steps

unfoldable pub plan_refusal : Plan → Result ⊤ Refusal
plan_refusal p =
    need (steps_good p) Steps
    (need (word_good p) CycleWord
    (need (numbers_good p) Digits
    (need (dates_good p) Dates
    (need (some_day p) NoDay
    (need (priced p) NoPrice (Ok tt))))))

-- a plan that none of them refuses
unfoldable pub is_good : Plan → Bool
is_good p = is_ok (plan_refusal p)
