-- The line's reader gives the request and the record, and the call and the text go by them.
use Rattle.replay_step.proofs.CallThenText.{answer, replayed}
use Rattle.replay_step.proofs.replay_line.Goals as goal

pub returns-clause-audited_value : goal.returns-clause-audited_value
returns-clause-audited_value c =
    (replayed c.args.audited c.args.number c.args.line.now c.args.scratch.now c.parse-request.ensures.0 c.parse-request.ensures.1 c.called-after.ensures).0

pub returns-clause-answered : goal.returns-clause-answered
returns-clause-answered c =
    let s = c.answered-length.ensures in
    let all = replayed c.args.audited c.args.number c.args.line.now c.args.scratch.now c.parse-request.ensures.0 c.parse-request.ensures.1 c.called-after.ensures in
    answer s.written (all.1 s.text s.holds)
