-- The line of a journal line that is no call and no query: `error`, its number and what is wrong.
use Rattle.std.specs.Prelude.{List, ◌++◌, ℕ}
use Rattle.text.specs.Decimal.{decimal}
use Rattle.text.specs.Word.{letters}
use Rattle.replay_parser.specs.declared.Fault.{Fault}
use Rattle.replay_parser.specs.declared.Fault.TheVariants.{UnknownWord, WordCount, NotANumber, NotHex, Gap, TooLong}

-- what is wrong
unfoldable pub fault_text : Fault → List ℕ
fault_text UnknownWord =
    letters "unknown word; the words are pulse, recharge, plan, alarms, command, key, tick, step, display, day, month, heavy, show"
fault_text WordCount = letters "wrong number of words"
fault_text NotANumber = letters "not a decimal number"
fault_text NotHex = letters "record not in pairs of hexadecimal digits"
fault_text Gap = letters "words must be parted by single spaces"
fault_text TooLong = letters "line longer than 65,535 bytes"

-- a colon and what is wrong
unfoldable pub fault_line : Fault → List ℕ
fault_line f = letters ": " ++ (fault_text f ++ letters "\n")

unfoldable pub error_line : ℕ → Fault → List ℕ
error_line line fault = letters "error " ++ (decimal line ++ fault_line fault)
