-- The audited meter after a list of calls holds the meter and the ledger of that list, so the two agree.
use mathlib.Core.Path.{◌≡◌, refl, ap, ◌∙◌}
use mathlib.Core.Bool.{Bool}
use mathlib.Core.List.{List, [], ◌∷◌}
use lib.ListN.{length}
use Rattle.slots.specs.World.{real}
use Rattle.state.specs.State.{State, state_with, fresh}
use Rattle.meter.specs.Call.{Call}
use Rattle.meter.specs.Machine.{state_in, after_call, fresh_meter}
use Rattle.meter.proofs.FollowsRules.{follows, fresh_in}
use Rattle.records.specs.Words.{word_count}
use Rattle.records.proofs.AfterTurn.{none-long}
use Rattle.ledger.specs.Lists.{accepted, run}
use Rattle.ledger.specs.Answers.{meter_after}
use Rattle.ledger.proofs.AnswersTell.{accepts, answers-tell}
use Rattle.running_ledger.specs.RunningLedger.{blank_running}
use Rattle.running_ledger.specs.SameLedger.{fed_running, running_after_calls}
use Rattle.running_ledger.proofs.SameLedger.{running-kept}
use Rattle.audited_meter.specs.declared.AuditedMeter.{AuditedMeter}
use Rattle.audited_meter.specs.AuditedMeter.{new_audited, called, audited_after_calls, AlwaysAgrees}

-- the meter is the one that the calls leave
meter-after : (d : AuditedMeter) (cs : List Call) → (audited_after_calls d cs).meter ≡ meter_after d.meter cs
unfolding audited_after_calls called meter_after
meter-after d [] = refl
meter-after d (c ∷ cs) = meter-after (called d c).audited cs

-- the ledger is fed along the list
running-run : (d : AuditedMeter) (cs : List Call) → length d.meter.held ≡ word_count → (audited_after_calls d cs).running ≡ running_after_calls (state_in d.meter) d.running cs
unfolding audited_after_calls running_after_calls called
running-run d [] long = refl
running-run d (c ∷ cs) long =
    let f = follows d.meter c long in
    running-run (called d c).audited cs f.long
    ∙ ap (λ (b : Bool). running_after_calls (state_in (after_call d.meter c).meter) (fed_running d.running c b) cs) (accepts d.meter c)
    ∙ ap (λ (m : State). running_after_calls m (fed_running d.running c (accepted real (state_in d.meter) c)) cs) f.state

pub always-agrees : AlwaysAgrees
unfolding new_audited state_with
always-agrees cs =
    let e : state_in (audited_after_calls new_audited cs).meter ≡ run real fresh cs =
    ap state_in (meter-after new_audited cs) ∙ (answers-tell fresh_meter cs none-long).state ∙ ap (λ (m : State). run real m cs) fresh_in in
    let b : (audited_after_calls new_audited cs).running ≡ running_after_calls fresh blank_running cs =
    running-run new_audited cs none-long ∙ ap (λ (m : State). running_after_calls m blank_running cs) fresh_in in
    let balance = ap (λ (m : State). m.account.balance.0) e in
    rw (balance, b) (running-kept cs).balance
