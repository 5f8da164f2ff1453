-- How the flat structs of the C library hold document 01's answers: `accepted`, else the refusal's number; what is not answered is 0.
use Rattle.std.specs.Prelude.{◌≡◌, ℕ, pos, ⊤, Result, Ok, Err}
use Rattle.units.specs.declared.Shown.{Shown}
use Rattle.units.specs.declared.VolumeSum.{VolumeSum}
use Rattle.units.specs.Volume.{price}
use Rattle.units.specs.Money.{money}
use Rattle.units.specs.Display.{shown}
use Rattle.refusal.specs.declared.Refusal.{Refusal}
use Rattle.refusal.specs.declared.Acceptance.{Acceptance}
use Rattle.refusal.specs.Refusal.{acceptance_of}
use Rattle.plan.specs.declared.Plan.{Plan}
use Rattle.plan.specs.declared.StepPrice.{StepPrice}
use Rattle.plan.specs.Plan.{no_plan}
use Rattle.plan_record.specs.declared.Which.{Which}
use Rattle.plan_record.specs.declared.Which.TheVariants.{First, Second}
use Rattle.records.specs.declared.Record.{Record}
use Rattle.records.specs.declared.PlacedRecord.{PlacedRecord}
use Rattle.records.specs.Queries.{no_place}
use Rattle.account.specs.declared.Codes.{Codes}
use Rattle.account.specs.Codes.{no_codes}
use Rattle.state.specs.State.{State}
use Rattle.query.specs.Queries.{HeavyAnswer, volume_of}
use Rattle.harpdapple.specs.declared.CodesReply.{CodesReply}
use Rattle.harpdapple.specs.declared.StepReply.{StepReply}
use Rattle.harpdapple.specs.declared.DisplayReply.{DisplayReply}
use Rattle.harpdapple.specs.declared.RecordReply.{RecordReply}
use Rattle.harpdapple.specs.declared.SumReply.{SumReply}
use Rattle.harpdapple.specs.declared.PlanReply.{PlanReply}
use Rattle.harpdapple.specs.declared.PartReply.{PartReply}

-- "accepted", and refused by a number
abbrev pub accepting : Acceptance
accepting = acceptance_of {T = ⊤} (Ok tt)

abbrev pub refusing : Refusal → Acceptance
refusing n = acceptance_of {T = ⊤} (Err n)

unfoldable pub codes_reply_of : Result Codes Refusal → CodesReply
codes_reply_of (Ok k) = record { acceptance = accepting; codes = k }
codes_reply_of (Err n) = record { acceptance = refusing n; codes = no_codes }

unfoldable pub step_reply_of : Result StepPrice Refusal → StepReply
step_reply_of (Ok s) = record { acceptance = accepting; step = s }
step_reply_of (Err n) = record { acceptance = refusing n; step = record { number = 0; price = price 0 } }

unfoldable pub display_reply_of : Result Shown Refusal → DisplayReply
display_reply_of (Ok s) = record { acceptance = accepting; shown = s }
display_reply_of (Err n) = record { acceptance = refusing n; shown = shown (money (pos 0)) }

-- a record with its place, and none
unfoldable pub placed_reply_of : Result PlacedRecord Refusal → RecordReply
placed_reply_of (Ok d) = record { acceptance = accepting; found = d }
placed_reply_of (Err n) = record { acceptance = refusing n; found = no_place }

-- record k has the place k
abbrev pub placed_at : ℕ → Result Record Refusal → Result PlacedRecord Refusal
placed_at k (Ok r) = Ok (record { place = k; held = r })
placed_at k (Err n) = Err n

abbrev pub record_reply_of : ℕ → Result Record Refusal → RecordReply
record_reply_of k a = placed_reply_of (placed_at k a)

-- the heavy day alone is loose: the reply is that of some answer that the query may give
pub record HeavyReplied (m : State) (v : ℕ) (r : RecordReply) : Type 0 where
  pub found : Result PlacedRecord Refusal
  pub right : HeavyAnswer m v found
  pub told : r ≡ placed_reply_of found

unfoldable pub sum_reply_of : Result VolumeSum Refusal → SumReply
sum_reply_of (Ok s) = record { acceptance = accepting; volume = s }
sum_reply_of (Err n) = record { acceptance = refusing n; volume = volume_of 0 }

unfoldable pub plan_reply_of : Result Plan Refusal → PlanReply
plan_reply_of (Ok p) = record { acceptance = accepting; plan = p }
plan_reply_of (Err n) = record { acceptance = refusing n; plan = no_plan }

unfoldable pub part_reply_of : Result Which Refusal → PartReply
part_reply_of (Ok First) = record { acceptance = accepting; which = 1 }
part_reply_of (Ok Second) = record { acceptance = accepting; which = 2 }
part_reply_of (Err n) = record { acceptance = refusing n; which = 0 }
