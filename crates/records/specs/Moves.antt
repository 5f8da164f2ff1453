-- What every word is after a record is put in front, and after the turn of a day. What the words then hold is said by a law
-- (`closed-held` of proofs/AfterTurn.antt): the rule `closed` of Turn.
use Rattle.std.specs.Prelude.{cond, List, ◌∷◌, ◌++◌, ℕ, ◌+◌, ◌-◌, ◌*◌, min, get_or, take, drop}
use Rattle.units.specs.declared.Millionths.{Millionths}
use Rattle.records.specs.declared.Record.{Record}
use Rattle.records.specs.declared.Periods.{Periods}
use Rattle.records.specs.Records.{day_limit, month_limit}
use Rattle.records.specs.Turn.{later_month, day_record, month_record}
use Rattle.records.specs.Words.{day_place, month_place, record_words}

-- a record put in front behind the count at `from`: what is held moves down by one, but for the oldest of `limit`, and nothing else moves
unfoldable pub pushed : ℕ → ℕ → Record → List ℕ → List ℕ
pushed from limit r h =
    let n = min (get_or h from 0) (limit - 1) in
    take from h ++ ((n + 1) ∷ (record_words r ++ (take (3 * n) (drop (from + 1) h) ++ drop (from + 3 * n + 4) h)))

-- the words after the turn of a day
unfoldable pub closed_words : Periods → ℕ → ℕ → Millionths → List ℕ → List ℕ
closed_words p from to closing h =
    let days = pushed day_place day_limit (day_record p from closing) h in
    cond (later_month from to) (pushed month_place month_limit (month_record p from closing) days) days
