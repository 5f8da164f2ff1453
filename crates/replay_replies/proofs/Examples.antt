-- Lines of worked examples.
use mathlib.Core.Path.{◌≡◌, refl}
use mathlib.Core.List.{[], ◌∷◌}
use lib.IntN.{pos, negsuc}
use Rattle.std.specs.Prelude.{Ok, Err}
use Rattle.text.specs.Decimal.{decimal, digits_of, signed}
use Rattle.text.specs.Hex.{hexadecimal}
use Rattle.units.specs.Money.{money}
use Rattle.units.specs.Volume.{volume, charge}
use Rattle.refusal.specs.declared.Refusal.TheVariants.{Pulses}
use Rattle.replay_parser.specs.declared.Fault.TheVariants.{NotANumber}
use Rattle.text.specs.Word.{letters}
use Rattle.replay_replies.specs.Lines.{ok_line, refused_line, codes_text, call_line, display_line, display_text, record_text}
use Rattle.replay_replies.specs.Errors.{error_line, fault_line, fault_text}
use Rattle.replay_replies.specs.Closing.{closing_line, agrees}

expiry : call_line (Ok (record { count = 2; list = 0x80020012 ∷ 0x12 ∷ 0 ∷ 0 ∷ 0 ∷ 0 ∷ 0 ∷ 0 ∷ [] })) ≡ letters "ok 80020012 12\n"
unfolding ok_line codes_text hexadecimal digits_of
expiry = refl

too_many : call_line (Err Pulses) ≡ letters "refused 13\n"
unfolding refused_line decimal digits_of
too_many = refl

debt : display_line (Ok (record { 0 = negsuc 279 })) ≡ letters "-280\n"
unfolding display_text signed decimal digits_of
debt = refl

day : record_text (record { date = 20200131; volume = volume 2501; charge = charge 65031500; closing = money (pos 34968500) })
    ≡ letters "20200131 2501 65031500 34968500\n"
unfolding record_text signed decimal digits_of
day = refl

no_number : error_line 7 NotANumber ≡ letters "error 7: not a decimal number\n"
unfolding error_line fault_line fault_text decimal digits_of
no_number = refl

in-debt : closing_line (charge 100000000) (money (negsuc 27999)) (charge 100028000) ≡ letters "recharged 100000000 balance -28000 ledger 100028000 agree\n"
unfolding closing_line agrees signed decimal digits_of
in-debt = refl

too-low : closing_line (charge 5) (money (pos 6)) (charge 1) ≡ letters "recharged 5 balance 6 ledger 1 differ\n"
unfolding closing_line agrees signed decimal digits_of
too-low = refl
