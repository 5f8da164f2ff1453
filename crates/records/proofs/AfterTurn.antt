-- The records that the words hold after a push, and after the turn of a day. Assumes nothing.
use mathlib.Core.Path.{◌≡◌, refl, ◌∙◌}
use mathlib.Core.List.{List}
use Prim.Native.Nat.{ℕ, ◌+◌, ◌*◌, ◌/◌, ◌^◌, ◌≤◌, ◌<◌}
use native.Mathlib.Omega.{arith}
use lib.ListN.{length, get_or}
use lib.Signed.{mag}
use Rattle.units.specs.declared.Millionths.{Millionths}
use Rattle.calendar.specs.Cycle.{month_start}
use Rattle.refusal.proofs.Tests.{cases}
use Rattle.records.specs.declared.Record.{Record}
use Rattle.records.specs.declared.Periods.{Periods}
use Rattle.records.specs.Records.{day_limit, month_limit, in_front}
use Rattle.records.specs.Turn.{later_month, closed, day_record, month_record}
use Rattle.records.specs.Words.{day_place, month_place, word_count, held_from, held_of, no_words}
use Rattle.records.specs.Moves.{pushed, closed_words}
use Rattle.records.proofs.Pushed.{Fits, rows_same, pushed_long, pushed-before, pushed-after, pushed-count, pushed-rows}

-- a fresh meter's words
pub none-long : length no_words ≡ word_count
unfolding no_words
none-long = refl

-- a day or a month is pushed, and the others stay; months stay only where no more are counted than the words hold
module _ (r : Record) (h : List ℕ) (long : length h ≡ word_count) where
  days-pushed : Fits r → held_from day_place (pushed day_place day_limit r h) ≡ in_front day_limit r (held_from day_place h)
  days-pushed f = pushed-rows day_place day_limit r h (omega arith) (omega arith) f

  months-pushed : Fits r → held_from month_place (pushed month_place month_limit r h) ≡ in_front month_limit r (held_from month_place h)
  months-pushed f = pushed-rows month_place month_limit r h (omega arith) (omega arith) f

  months-stay : held_from month_place (pushed day_place day_limit r h) ≡ held_from month_place h
  unfolding held_from
  months-stay =
      let same = pushed-after day_place day_limit r h (omega arith) (omega arith) in
      rw (same month_place (omega arith)) (rows_same (pushed day_place day_limit r h) h (month_place + 1) (month_place + 1) _ (λ j p. same (month_place + 1 + j) (omega arith)))

  days-stay : get_or h day_place 0 ≤ day_limit → held_from day_place (pushed month_place month_limit r h) ≡ held_from day_place h
  unfolding held_from
  days-stay few =
      let same = pushed-before month_place month_limit r h (omega arith) (omega arith) in
      rw (same day_place (omega arith)) (rows_same (pushed month_place month_limit r h) h (day_place + 1) (day_place + 1) _ (λ j p. same (day_place + 1 + j) (omega arith)))

-- the turn of a day
module _ (p : Periods) (from to : ℕ) (closing : Millionths) (h : List ℕ) (long : length h ≡ word_count) where
  abbrev day_turned : List ℕ
  day_turned = pushed day_place day_limit (day_record p from closing) h

  day-long : length day_turned ≡ word_count
  day-long = pushed_long day_place day_limit (day_record p from closing) h (omega arith) (omega arith) ∙ long

  pub closed-long : length (closed_words p from to closing h) ≡ word_count
  unfolding closed_words
  closed-long =
      let month-long = pushed_long month_place month_limit (month_record p from closing) day_turned (omega arith) (omega (arith, day-long)) in
      cases (later_month from to) (λ e. rw e (month-long ∙ day-long)) (λ e. rw e day-long)

  pub closed-held : from < 2 ^ 32 → mag closing.0 < 2 ^ 63 → held_of (closed_words p from to closing h) ≡ closed (held_of h) p from to closing
  unfolding closed_words closed month_start
  closed-held k s =
      let m : from / 100 * 100 + 1 < 2 ^ 32 = omega arith in
      let a = days-pushed (day_record p from closing) h long (record { date = k; closing = s }) in
      let b = months-stay (day_record p from closing) h long in
      let c = days-stay (month_record p from closing) day_turned day-long (days-few) in
      let d = months-pushed (month_record p from closing) day_turned day-long (record { date = m; closing = s }) in
      cases (later_month from to) (λ e. rw (e, c, d, a, b)) (λ e. rw (e, a, b))
    where
      days-few : get_or day_turned day_place 0 ≤ day_limit
      days-few = omega (arith, pushed-count day_place day_limit (day_record p from closing) h (omega arith) (omega arith))
