-- The words of a journal: what each asks for, and how its line is made.
use Rattle.std.specs.Prelude.{cond, List, [], ◌∷◌, ℕ, Option, Some, None}
use Rattle.std.specs.Str.{bytes_eq}
use Prim.Native.String.{String}
use denote.Ref.{Bor}
use Rattle.text.specs.Word.{letters}
use Rattle.replay_parser.specs.declared.forms.Form.{Form}
use Rattle.replay_parser.specs.declared.forms.Kind.{Kind}
use Rattle.replay_parser.specs.declared.forms.Kind.TheVariants.{Pulse, Recharge, Plan, Alarms, Command, Key, Tick, Step, Display, Day, Month, Heavy, Show}

-- a word, and the form of the lines that it begins
pub record Line : Type 0 where
  pub word : List ℕ
  pub form : Form

abbrev pub line : String → Form → Line
line w f = record { word = letters w; form = f }

-- the same of a row of the code's table
abbrev pub line_in : Bor (List ℕ) × Kind × ℕ × ℕ → Line
line_in r = record { word = r.0.now; form = record { kind = r.1; words = r.2; numbers = r.3 } }

-- so many numbers behind the first word, and nothing else
abbrev pub plain : Kind → ℕ → Form
plain k n = record { kind = k; words = n; numbers = n }

-- the table: the calls, of which a plan has its record behind the numbers, and the questions
unfoldable pub entries : List Line
entries =
    line "pulse" (plain Pulse 3)
    ∷ (line "recharge" (plain Recharge 4)
    ∷ (line "plan" (record { kind = Plan; words = 4; numbers = 3 })
    ∷ (line "alarms" (plain Alarms 4)
    ∷ (line "command" (plain Command 3)
    ∷ (line "key" (plain Key 2)
    ∷ (line "tick" (plain Tick 2)
    ∷ (line "step" (plain Step 0)
    ∷ (line "display" (plain Display 0)
    ∷ (line "show" (plain Show 0)
    ∷ (line "day" (plain Day 1)
    ∷ (line "month" (plain Month 1)
    ∷ (line "heavy" (plain Heavy 1)
    ∷ []))))))))))))

-- the form that a table has for a word
unfoldable pub form_by : List Line → List ℕ → Option Form
form_by [] w = None
form_by (e ∷ es) w = cond (bytes_eq e.word w) (Some e.form) (form_by es w)

unfoldable pub form_of : List ℕ → Option Form
form_of w = form_by entries w
