-- The closing line: what was recharged, the balance and the ledger sum, in millionths of a yuan, and whether they agree.
use Rattle.std.specs.Prelude.{Bool, false, cond, List, ◌++◌, ℕ, eqb, ℤ, pos, negsuc, ◌-ℤ◌}
use Rattle.units.specs.declared.Charge.{Charge}
use Rattle.units.specs.declared.Millionths.{Millionths}
use Rattle.text.specs.Decimal.{decimal}
use Rattle.text.specs.Word.{letters}
use Rattle.text_writer.specs.Value.{integer}

-- whether an integer is the natural number n
abbrev pub is_number : ℤ → ℕ → Bool
is_number (pos m) n = eqb m n
is_number (negsuc m) n = false

-- recharged minus balance is the ledger sum
unfoldable pub agrees : Charge → Millionths → Charge → Bool
agrees recharged balance ledger = is_number (pos recharged.0 -ℤ balance.0) ledger.0

unfoldable pub closing_line : Charge → Millionths → Charge → List ℕ
closing_line r b s =
    letters "recharged " ++ (decimal r.0
    ++ (letters " balance " ++ (integer b.0
    ++ (letters " ledger " ++ (decimal s.0
    ++ cond (agrees r b s) (letters " agree\n") (letters " differ\n"))))))
