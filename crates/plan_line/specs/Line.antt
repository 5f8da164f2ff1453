-- Document 01, "The plan printer": "prints a line each: start, end, n, cycle word (0 if unread), the extra fields if read, then n pairs,
-- in plain decimal with single spaces; or the word `refused` and the number."
use Rattle.std.specs.Prelude.{cond, List, [], ◌∷◌, ◌++◌, ℕ, zero, suc, ◌+◌, Result, Ok, Err}
use Rattle.text.specs.Decimal.{decimal, spaced}
use Rattle.refusal.specs.declared.Refusal.{Refusal}
use Rattle.refusal.specs.Refusal.{number_of}
use Rattle.plan.specs.declared.Plan.{Plan}
use Rattle.plan.specs.Plan.{width_at, price_at, cycle_word, has_extra}
use Rattle.plan_record.specs.PlanRecord.{read_of}

-- the most bytes of a line: eighteen numbers, each of at most twenty digits and a byte behind them
abbrev pub most_line : ℕ
most_line = 378

-- n pairs of volume and price, from pair i on
unfoldable pub pairs_from : Plan → ℕ → ℕ → List ℕ
pairs_from p zero i = []
pairs_from p (suc n) i = width_at p i ∷ price_at p i ∷ pairs_from p n (i + 1)

-- the numbers before the pairs
unfoldable pub head_of : Plan → List ℕ
head_of p = p.start ∷ p.end ∷ p.steps ∷ cycle_word p ∷ cond (has_extra p) (p.extra_1 ∷ p.extra_2 ∷ []) []

-- the numbers of a plan's line
unfoldable pub numbers_of : Plan → List ℕ
numbers_of p = head_of p ++ pairs_from p p.steps 0

-- the word `refused` and a space
abbrev pub refused_word : List ℕ
refused_word = 114 ∷ 101 ∷ 102 ∷ 117 ∷ 115 ∷ 101 ∷ 100 ∷ 32 ∷ []

abbrev pub answer_line : Result Plan Refusal → List ℕ
answer_line (Ok p) = spaced (numbers_of p) ++ (10 ∷ [])
answer_line (Err n) = refused_word ++ (decimal (number_of n) ++ (10 ∷ []))

-- the line of a record: any list of bytes
unfoldable pub line_of : List ℕ → List ℕ
line_of s = answer_line (read_of s)
