-- The first row with the word gives the form.
use Rattle.std.proofs.Common.{List, [], ◌∷◌, ℕ, ◌≡◌, Bool, true, false, cond, Option, Some, None, rules, refl, ap, ◌∙◌}
use mathlib.Core.List.{map}
use denote.Ref.{Bor}
use borrow.Author.Tests.{tests}
use Rattle.std.specs.Str.{bytes_eq}
use Rattle.std.specs.Option.{option_map}
use Rattle.std.specs.List.{find}
use Rattle.std.proofs.lemmas.Iterator.{YieldsList-from_slice}
use Rattle.std.proofs.lemmas.Iterator.Search.{find_from_yields_List}
use Rattle.replay_parser.specs.declared.forms.Kind.{Kind}
use Rattle.replay_parser.specs.Forms.{line_in, form_by}
use Rattle.replay_parser.proofs.forms.form_by.Goals.{After-find}
use Rattle.replay_parser.proofs.forms.form_by.Goals as goal

abbrev Row : Type 0
Row = Bor (List ℕ) × Kind × ℕ × ℕ

abbrev first : List ℕ → List Row → Option Row
first w rows = find (λ (r : Row). bytes_eq r.0.now w) rows

found : (w : List ℕ) (rows : List Row) → option_map (λ (r : Row). (line_in r).form) (first w rows) ≡ form_by (map line_in rows) w
unfolding form_by
found w [] = refl
found w (r ∷ rows) = by-test (bytes_eq r.0.now w) (found w rows)
  where
    by-test : (t : Bool) → option_map (λ (q : Row). (line_in q).form) (first w rows) ≡ form_by (map line_in rows) w
        → option_map (λ (q : Row). (line_in q).form) (cond t (Some r) (first w rows)) ≡ cond t (Some (line_in r).form) (form_by (map line_in rows) w)
    by-test true e = refl
    by-test false e = e

in-row : (r : Option (Bor Row)) → option_map (λ (q : Bor Row). (line_in q.now).form) r ≡ option_map (λ (q : Row). (line_in q).form) (option_map (λ (q : Bor Row). q.now) r)
in-row None = refl
in-row (Some q) = refl

form : (w : List ℕ) (rows : List Row) (r : Option (Bor Row)) → option_map (λ (q : Bor Row). q.now) r ≡ first w rows
    → option_map (λ (q : Bor Row). (line_in q.now).form) r ≡ form_by (map line_in rows) w
form w rows r e = in-row r ∙ ap (option_map (λ (q : Row). (line_in q).form)) e ∙ found w rows

in-table : (c : After-find) → option_map (λ (q : Bor Row). (line_in q.now).form) c.find.result ≡ form_by (map line_in c.args.table.now) c.args.w.now
in-table c =
    let w = c.args.w.now in
    let rows = c.args.table.now in
    form w rows c.find.result
    (find_from_yields_List (λ (r : Row). bytes_eq r.0.now w) _ _ c.find.result c.find.ensures.ran (YieldsList-from_slice rows c.iter.ensures.rest) (λ x b q k. search (rules, tests)))

pub returns-in_err-kind : goal.returns-in_err-kind
returns-in_err-kind c = let e = rw c.in_err-kind.was at (in-table (goal.at.returns-in_err-kind c).After-find) in c.from_residual.ensures ∙ e

pub returns : goal.returns
returns c = rw c.in_ok-kind.was at (in-table (goal.at.returns c).After-find)
