-- What is wrong with a line: the first of the faults of a content, whose texts are in replay_replies/specs/Errors.antt. The last fault,
-- a line longer than the program's buffer, is found where lines are read.
use Rattle.std.specs.Prelude.{not, ◌||◌, List, ℕ, eqb, leb, Option, Some, None, Result, Ok, Err}
use Rattle.refusal.specs.Refusal.{need}
use Rattle.replay_lexer.specs.Words.{word_at, words_behind, has_gap}
use Rattle.replay_lexer.specs.Numbers.{are_numbers}
use Rattle.replay_lexer.specs.Hex.{is_hex}
use Rattle.replay_parser.specs.declared.forms.Form.{Form}
use Rattle.replay_parser.specs.declared.Fault.{Fault}
use Rattle.replay_parser.specs.declared.Fault.TheVariants.{UnknownWord, WordCount, NotANumber, NotHex, Gap}
use Rattle.replay_parser.specs.Forms.{form_of}

-- a form where the first word is known, and what else a content s must be that is to be made so
abbrev pub made_as : Option Form → List ℕ → Result Form Fault
made_as None s = Err UnknownWord
made_as (Some f) s =
    need (eqb (words_behind s) f.words) WordCount
    (need (are_numbers s f.numbers) NotANumber
    (need (leb f.words f.numbers || is_hex (word_at s f.words)) NotHex
    (Ok f)))

-- how a content s is made, or its first fault
unfoldable pub form_in : List ℕ → Result Form Fault
form_in s = need (not (has_gap s)) Gap (made_as (form_of (word_at s 0)) s)
