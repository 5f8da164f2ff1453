-- The four thresholds are passed in their order, each by its own test, and the codes of each stand behind those of the ones before.
use Rattle.account.specs.Codes.{note_all}
use Rattle.account.specs.Thresholds.{thresholds, valve_past, codes_past}
use Rattle.account.proofs.CodesNoted.{note-append}
use Rattle.account.proofs.Account.crossing.Goals as goal

pub returns : goal.returns
unfolding valve_past codes_past thresholds note_all
returns c =
    rw (
      c.past_threshold-4.ensures,
      c.goes_below_zero.ensures,
      c.past_threshold-3.ensures,
      c.crosses-zero.ensures,
      c.past_threshold-2.ensures,
      c.crosses-alarm_2.ensures,
      c.yuan-2.ensures,
      c.past_threshold.ensures,
      c.crosses-alarm_1.ensures,
      c.yuan.ensures,
    )
    (simp (← note-append))
