-- What a line says, from what its content is found to be. Assumes nothing.
use mathlib.Core.Path.{◌≡◌, refl, sym, ap, ◌∙◌}
use mathlib.Core.List.{List, [], ◌∷◌}
use Prim.Native.Nat.{ℕ}
use native.Mathlib.Omega.{arith}
use lib.ListN.{length}
use Rattle.std.specs.Prelude.{Result, Ok, Err}
use Rattle.replay_lexer.specs.Words.{content}
use Rattle.replay_parser.specs.declared.forms.Form.{Form}
use Rattle.replay_parser.specs.declared.Fault.{Fault}
use Rattle.replay_parser.specs.declared.Request.TheVariants.{Nothing}
use Rattle.replay_parser.specs.Faults.{form_in}
use Rattle.replay_parser.specs.Requests.{request_for, record_by, request_by, bytes_by, request_in, record_in, request_of, record_of}

none : (s : List ℕ) → length s ≡ 0 → (Ok Nothing ≡ request_in s) × ([] ≡ record_in s)
unfolding request_in record_in
none [] h = (refl, refl)
none (x ∷ s) h = absurd (omega arith)

some : (s : List ℕ) → (length s ≡ 0 → ⊥) → (request_by (form_in s) s ≡ request_in s) × (bytes_by (form_in s) s ≡ record_in s)
unfolding request_in record_in
some [] h = absurd (h refl)
some (x ∷ s) h = (refl, refl)

module _ (line s : List ℕ) (e : s ≡ content line) where
  pub empty-line : length s ≡ 0 → (Ok Nothing ≡ request_of line) × ([] ≡ record_of line)
  unfolding request_of record_of
  empty-line h = rw e at (none s h)

  pub wrong-line : (length s ≡ 0 → ⊥) → (n : Fault) → form_in s ≡ Err n → (Err n ≡ request_of line) × ([] ≡ record_of line)
  unfolding request_of record_of
  wrong-line h n v = rw e at (rw v at (some s h))

  pub sound-line : (length s ≡ 0 → ⊥) → (f : Form) → form_in s ≡ Ok f → (Ok (request_for f.kind s) ≡ request_of line) × (record_by f s ≡ record_of line)
  unfolding request_of record_of
  sound-line h f v =
      let p = some s h in (
        ap (λ (r : Result Form Fault). request_by r s) (sym v) ∙ p.0 ∙ ap request_in e,
        ap (λ (r : Result Form Fault). bytes_by r s) (sym v) ∙ p.1 ∙ ap record_in e,
      )
