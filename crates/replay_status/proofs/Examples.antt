-- Lines of worked examples.
use mathlib.Core.Path.{◌≡◌, refl}
use lib.IntN.{pos, negsuc}
use Rattle.text.specs.Decimal.{decimal, digits_of}
use Rattle.units.specs.Volume.{volume, price, charge}
use Rattle.std.specs.Prelude.{Ok, Err}
use Rattle.refusal.specs.declared.Refusal.TheVariants.{NoPlan}
use Rattle.text.specs.Word.{letters}
use Rattle.text_writer.specs.Value.{fixed, last_digits}
use Rattle.replay_status.specs.Status.{balance_status, usage_status, step_status, day_status}

credit : balance_status (pos 34968500) ≡ letters "balance 34.968500 yuan\n"
unfolding balance_status fixed last_digits decimal digits_of
credit = refl

debt : balance_status (negsuc 27999) ≡ letters "balance -0.028000 yuan\n"
unfolding balance_status fixed last_digits decimal digits_of
debt = refl

usage : usage_status 2501 ≡ letters "usage 25.01 m3 in this cycle\n"
unfolding usage_status fixed last_digits decimal digits_of
usage = refl

second : step_status (Ok (record { number = 2; price = price 31500 })) ≡ letters "step 2 at 3.1500 yuan a m3\n"
unfolding step_status fixed last_digits decimal digits_of
second = refl

none : step_status (Err NoPlan) ≡ letters "step none, no plan in force\n"
unfolding step_status
none = refl

day : day_status 20200131 (record { volume = volume 2501; charge = charge 65031500 }) ≡ letters "open day 20200131: 25.01 m3, 65.031500 yuan\n"
unfolding day_status fixed last_digits decimal digits_of
day = refl
