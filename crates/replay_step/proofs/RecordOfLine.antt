-- The record of a line stands at the start of the buffer, as long as its request says. Assumes nothing.
use mathlib.Core.Path.{◌≡◌, refl}
use mathlib.Core.Bool.{Bool, true, false, not}
use mathlib.Core.List.{List, [], ◌∷◌}
use Prim.Native.Nat.{ℕ}
use lib.Dec.{eqb, leb}
use lib.ListN.{length, take}
use lib.Seq.{take_at}
use Rattle.std.specs.Prelude.{◌||◌, Option, Some, None, Result, Ok}
use Rattle.std.specs.Str.{bytes_eq}
use Rattle.text.specs.Decimal.{starting_with}
use Rattle.replay_lexer.specs.Words.{content, word_at, words_behind, has_gap}
use Rattle.replay_lexer.specs.Numbers.{are_numbers}
use Rattle.replay_lexer.specs.Hex.{is_hex}
use Rattle.refusal.proofs.Tests.{cases}
use Rattle.refusal.specs.Refusal.{need}
use Rattle.replay_parser.specs.declared.forms.Form.{Form}
use Rattle.replay_parser.specs.declared.Fault.{Fault}
use Rattle.replay_parser.specs.declared.Fault.TheVariants.{WordCount, NotANumber, NotHex, Gap}
use Rattle.replay_parser.specs.declared.Request.{Request}
use Rattle.replay_parser.specs.Forms.{Line, entries, form_by, form_of}
use Rattle.replay_parser.specs.Faults.{made_as, form_in}
use Rattle.replay_parser.specs.Requests.{request_for, record_by, request_by, bytes_by, request_in, record_in, request_of, record_of}
use Rattle.replay_step.specs.ReplayStep.{size_of}

-- the record that a form has is as long as the request of its line says
abbrev Fits : Form → Type 0
Fits f = (s : List ℕ) → length (record_by f s) ≡ size_of (Ok (request_for f.kind s))

abbrev FitsIf : Option Form → Type 0
FitsIf None = Unit {0}
FitsIf (Some f) = Fits f

-- each line of a table has such a form
data All : List Line → Type 0 where
  none : All []
  more : {e : Line} {es : List Line} → Fits e.form → All es → All (e ∷ es)

in_table : (w : List ℕ) {es : List Line} → All es → FitsIf (form_by es w)
unfolding form_by
in_table w none = tt
in_table w (more {e} h t) =
    cases (bytes_eq e.word w) (λ q. rw q h) (λ q. rw q (in_table w t))

fits : All entries
unfolding entries request_for record_by
fits =
    more (λ s. refl) (more (λ s. refl) (more (λ s. refl) (more (λ s. refl) (more (λ s. refl) (more (λ s. refl) (more (λ s. refl)
    (more (λ s. refl) (more (λ s. refl) (more (λ s. refl) (more (λ s. refl) (more (λ s. refl) (more (λ s. refl) none))))))))))))

-- the same of a content's form, past each test
abbrev Right : Result Form Fault → List ℕ → Type 0
Right r s = length (bytes_by r s) ≡ size_of (request_by r s)

tested : (t : Bool) (n : Fault) (r : Result Form Fault) (s : List ℕ) → Right r s → Right (need t n r) s
tested true n r s h = h
tested false n r s h = refl

of-form : (o : Option Form) (s : List ℕ) → FitsIf o → Right (made_as o s) s
of-form None s h = refl
of-form (Some f) s h =
    tested (eqb (words_behind s) f.words) WordCount _ s
    (tested (are_numbers s f.numbers) NotANumber _ s
    (tested (leb f.words f.numbers || is_hex (word_at s f.words)) NotHex (Ok f) s (h s)))

of-content : (s : List ℕ) → length (record_in s) ≡ size_of (request_in s)
unfolding request_in record_in form_in form_of
of-content [] = refl
of-content (x ∷ l) =
    let s = x ∷ l in
    tested (not (has_gap s)) Gap (made_as (form_by entries (word_at s 0)) s) s (of-form (form_by entries (word_at s 0)) s (in_table (word_at s 0) fits))

of-line : (line : List ℕ) → length (record_of line) ≡ size_of (request_of line)
unfolding request_of record_of
of-line line = of-content (content line)

pub kept : (line scratch₀ : List ℕ) {o : Result Request Fault} {scratch : List ℕ} → o ≡ request_of line → scratch ≡ starting_with (record_of line) scratch₀
    → take (size_of o) scratch ≡ record_of line
unfolding starting_with
kept line scratch₀ e f = rw (f, e) (take_at (record_of line) _ (size_of (request_of line)) (of-line line))
