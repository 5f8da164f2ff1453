-- The lines that show a meter in plain words and units: balance, usage, step, valve, mark and open day.
use Rattle.std.specs.Prelude.{cond, List, ◌++◌, ℕ, eqb, ℤ, pos, nat_abs, Result, Ok, Err}
use Rattle.std.specs.Int.Signed.{lt_z}
use Rattle.text.specs.Decimal.{decimal}
use Rattle.text.specs.Word.{letters}
use Rattle.text_writer.specs.Value.{fixed}
use Rattle.account.specs.declared.Valve.{Valve}
use Rattle.refusal.specs.declared.Refusal.{Refusal}
use Rattle.refusal.specs.Refusal.{number_of}
use Rattle.plan.specs.declared.StepPrice.{StepPrice}
use Rattle.records.specs.declared.OpenPeriod.{OpenPeriod}
use Rattle.state.specs.State.{State}
use Rattle.query.specs.Queries.{step_answer}

-- millionths of a yuan, with a minus sign where they are below 0
unfoldable pub balance_status : ℤ → List ℕ
balance_status b =
    letters "balance " ++ (cond (lt_z b (pos 0)) (letters "-") (letters "") ++ (fixed 6 (nat_abs b) ++ letters " yuan\n"))

-- hundredths of a cubic metre
unfoldable pub usage_status : ℕ → List ℕ
usage_status v = letters "usage " ++ (fixed 2 v ++ letters " m3 in this cycle\n")

-- the answer to the step query; no plan in force is refusal 24, and a meter out of its bounds refusal 0
unfoldable pub step_status : Result StepPrice Refusal → List ℕ
step_status (Ok s) =
    letters "step " ++ (decimal s.number ++ (letters " at " ++ (fixed 4 s.price.0 ++ letters " yuan a m3\n")))
step_status (Err n) =
    cond (eqb (number_of n) 24) (letters "step none, no plan in force\n")
    (letters "step refused " ++ (decimal (number_of n) ++ letters "\n"))

unfoldable pub valve_status : Valve → List ℕ
valve_status v =
    cond v.opened (letters "valve open\n") (letters "valve closed\n")
    ++ cond v.allow (letters "mark allow\n") (letters "mark forbid\n")

-- the clock's date, 0 before the first accepted call, with the open day's volume and charge
unfoldable pub day_status : ℕ → OpenPeriod → List ℕ
day_status date t =
    cond (eqb date 0)
    (letters "open day none, no accepted call yet\n")
    (letters "open day " ++ (decimal date
    ++ (letters ": " ++ (fixed 2 t.volume.0
    ++ (letters " m3, " ++ (fixed 6 t.charge.0
    ++ letters " yuan\n"))))))

unfoldable pub status_lines : State → List ℕ
status_lines m =
    balance_status m.account.balance.0
    ++ (usage_status m.slots.usage.0
    ++ (step_status (step_answer m)
    ++ (valve_status m.valve
    ++ day_status m.clock.date m.periods.day)))
