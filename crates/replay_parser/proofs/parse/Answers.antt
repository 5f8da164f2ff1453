-- A line is empty, or has a fault, or says what its words say.
use Rattle.std.proofs.Common.{ℕ, List, ◌≡◌, length, Ok, arith, rules, sym, ap, ◌∙◌}
use borrow.Author.Tests.{tests}
use Rattle.text.specs.Decimal.{starting_with}
use Rattle.text.proofs.Behind.{nothing}
use Rattle.replay_lexer.proofs.WordLengths.{content-most}
use Rattle.replay_parser.proofs.RequestOfLine.{empty-line, wrong-line, sound-line}
use Rattle.replay_parser.proofs.parse.Goals as goal

pub returns-then-is_empty : goal.returns-then-is_empty
returns-then-is_empty c =
    let none : length c.content-s.result.now ≡ 0 = search (rules, tests) in
    let line = empty-line c.args.line.now c.content-s.result.now c.content-s.ensures none in
    (line.0, (nothing c.args.scratch.now).buffer ∙ ap (λ (l : List ℕ). starting_with l c.args.scratch.now) line.1)

pub returns-in_err-form : goal.returns-in_err-form
returns-in_err-form c =
    let s = c.content-s.result.now in
    let some : (length s ≡ 0 → ⊥) = λ h. search (rules, tests) in
    let line = wrong-line c.args.line.now s c.content-s.ensures some _ (sym c.form_in.ensures ∙ c.in_err-form.was) in
    (rw (sym line.0) (search rules), (nothing c.args.scratch.now).buffer ∙ ap (λ (l : List ℕ). starting_with l c.args.scratch.now) line.1)

pub put_record-requires : goal.put_record-requires
put_record-requires c = let most = content-most c.args.line.now in rw c.content-s.ensures (omega arith)

pub returns : goal.returns
returns c =
    let s = c.content-s.result.now in
    let some : (length s ≡ 0 → ⊥) = λ h. search (rules, tests) in
    let line = sound-line c.args.line.now s c.content-s.ensures some c.in_ok-form.form (sym c.form_in.ensures ∙ c.in_ok-form.was) in
    (ap Ok c.request_for.ensures ∙ line.0, c.put_record.ensures ∙ ap (λ (l : List ℕ). starting_with l c.args.scratch.now) line.1)
