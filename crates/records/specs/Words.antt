-- How numbers hold the records: the count of days, three words for each of 62 days, the count of months, three words for each of 120
-- months, the newest first. The words of a record: date and volume * 2^32, charge, closing balance in two's complement. Words behind the
-- records that are counted mean nothing.
use Rattle.std.specs.Prelude.{cond, List, [], ◌∷◌, ℕ, zero, suc, ◌+◌, ◌-◌, ◌*◌, ◌/◌, ◌%◌, ◌^◌, ◌≤◌, ltb, length, get_or, replicate, ℤ, pos, negsuc}
use Rattle.units.specs.Volume.{volume, charge}
use Rattle.units.specs.Money.{money}
use Rattle.records.specs.declared.Record.{Record}
use Rattle.records.specs.declared.Shelf.{Shelf}
use Rattle.records.specs.declared.Shelf.TheVariants.{Day, Month}
use Rattle.records.specs.declared.held.Rows.{Rows}
use Rattle.records.specs.Records.{Held, records_of, shelf_limit}

-- where the counts stand, and how many words there are
abbrev pub day_place : ℕ
day_place = 0

abbrev pub month_place : ℕ
month_place = 187

abbrev pub shelf_place : Shelf → ℕ
shelf_place Day = day_place
shelf_place Month = month_place

abbrev pub word_count : ℕ
word_count = 548

-- two's complement: a word from 2^63 on is a number below 0, and `negsuc n` is -(n + 1)
abbrev pub balance_of : ℕ → ℤ
balance_of w = cond (ltb w (2 ^ 63)) (pos w) (negsuc (2 ^ 64 - suc w))

abbrev pub balance_word : ℤ → ℕ
balance_word (pos n) = n
balance_word (negsuc n) = 2 ^ 64 - suc n

abbrev pub date_word : Record → ℕ
date_word r = r.volume.0 * 2 ^ 32 + r.date

abbrev pub record_words : Record → List ℕ
record_words r = date_word r ∷ r.charge.0 ∷ balance_word r.closing.0 ∷ []

-- the record of three words, the one whose words begin at a place, and n records from there on
unfoldable pub record_from : ℕ → ℕ → ℕ → Record
record_from a b c = record { date = a % 2 ^ 32; volume = volume (a / 2 ^ 32); charge = charge b; closing = money (balance_of c) }

abbrev pub record_at : List ℕ → ℕ → Record
record_at h at = record_from (get_or h at 0) (get_or h (at + 1) 0) (get_or h (at + 2) 0)

unfoldable pub rows : List ℕ → ℕ → ℕ → List Record
rows h at zero = []
rows h at (suc n) = record_at h at ∷ rows h (at + 3) n

-- the records behind the count at `from`, as many as it says
unfoldable pub held_from : ℕ → List ℕ → List Record
held_from from h = rows h (from + 1) (get_or h from 0)

-- the records that the words hold
abbrev pub held_of : List ℕ → Held
held_of h = record { days = held_from day_place h; months = held_from month_place h }

-- those on a shelf, as the code sees it too, and that there are no more than fit on it
abbrev pub held_on : Shelf → List ℕ → List Record
held_on s h = records_of s (held_of h)

abbrev pub rows_of : Rows → List Record
rows_of s = held_on s.shelf s.words.now

abbrev pub CountFits : Shelf → List ℕ → Type 0
CountFits s h = length (held_on s h) ≤ shelf_limit s

-- the words of a fresh meter: no record held
unfoldable pub no_words : List ℕ
no_words = replicate word_count 0
