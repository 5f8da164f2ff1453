use Rattle.std.proofs.Common.{◌≡◌, rules}
use Rattle.std.specs.Prelude.{Ok}
use Rattle.units.specs.Money.{Small}
use Rattle.account.specs.Account.{recharge_refusal}
use Rattle.slots.specs.World.{real}
use Rattle.state.specs.State.{State, state_with, registers_of}
use Rattle.state.proofs.Admitted.{stamp-passed}
use Rattle.state.proofs.TurnKeepsBounds.{turn-account}
use Rattle.state.proofs.Headroom.{state, small-balance, low-serial, small-amount}
use Rattle.meter.specs.Call.{recharge}
use Rattle.meter.specs.Refusals.{own_refusal}
use Rattle.meter.specs.Machine.{meter_of, state_in}
use Rattle.meter.proofs.AnswersByRefusal.{answered_by}
use Rattle.meter.proofs.Machine.recharge.Goals as goal

pub run-requires-clause-checks : goal.run-requires-clause-checks
unfolding state_with
run-requires-clause-checks c h =
    let m : State = state_in (meter_of c.args.self c.args.words.now) in
    let s = state m (stamp-passed real m c.args.p.stamp h).0 in
    search (rules, small-balance _ s, low-serial _ s)

pub run-requires-clause-acts : goal.run-requires-clause-acts
unfolding registers_of state_with
run-requires-clause-acts c x t w b =
    let m : State = state_in (meter_of c.args.self c.args.words.now) in
    let s = state m (stamp-passed real m c.args.p.stamp b.stamp).0 in
    let e = b.told in
    let own : recharge_refusal m.account c.args.p.amount.0 c.args.p.serial ≡ Ok tt = search rules in
    let small : Small t.registers.account.balance.0 = rw (b.turned.0, turn-account real m c.args.p.stamp) (small-balance m s) in
    search (rules, small, small-amount m c.args.p.amount.0 c.args.p.serial s own)

pub returns : goal.returns
unfolding own_refusal state_with
returns c = answered_by (meter_of c.args.self c.args.words.now) (recharge c.args.p) _ _ _ c.run.ensures (λ a e. search rules) (λ t o i. search rules)
