-- What a line of a journal does to the audited meter, and what it is answered.
use Rattle.std.specs.Prelude.{◌≡◌, List, [], ℕ, Result, Ok, Err}
use Rattle.refusal.specs.declared.Refusal.{Refusal}
use Rattle.account.specs.declared.Codes.{Codes}
use Rattle.account.specs.Codes.{no_codes}
use Rattle.records.specs.declared.PlacedRecord.{PlacedRecord}
use Rattle.state.specs.State.{State}
use Rattle.meter.specs.Machine.{state_in}
use Rattle.meter.specs.Call.{call_of}
use Rattle.query.specs.Queries.{step_answer, display_answer, record_answer, HeavyAnswer}
use Rattle.audited_meter.specs.declared.AuditedMeter.{AuditedMeter}
use Rattle.audited_meter.specs.declared.CallResult.{CallResult}
use Rattle.audited_meter.specs.AuditedMeter.{called}
use Rattle.replay_parser.specs.declared.Fault.{Fault}
use Rattle.replay_parser.specs.declared.Request.{Request}
use Rattle.replay_parser.specs.declared.Request.TheVariants.{Nothing, Call, Query, Show}
use Rattle.replay_parser.specs.declared.Query.{Query as Queried}
use Rattle.replay_parser.specs.declared.Query.TheVariants.{Step, Display, Record, Heavy}
use Rattle.text.specs.Written.{Written}
use Rattle.text_writer.specs.TextWriter.{most_line}
use Rattle.replay_replies.specs.Lines.{call_line, step_line, display_line, record_line, heavy_line}
use Rattle.replay_replies.specs.Errors.{error_line}
use Rattle.replay_status.specs.Status.{status_lines}

-- no call
abbrev pub no_call : AuditedMeter → CallResult
no_call d = record { audited = d; done = Ok no_codes }

-- a call is made, a plan with the record beside it; any other line leaves the audited meter
unfoldable pub called_by : AuditedMeter → Result Request Fault → List ℕ → CallResult
called_by d (Ok Nothing) bytes = no_call d
called_by d (Ok (Call c n)) bytes = called d (call_of c bytes)
called_by d (Ok (Query q)) bytes = no_call d
called_by d (Ok Show) bytes = no_call d
called_by d (Err k) bytes = no_call d

-- the text that answers a query. Which heavy day is named is left free, as the query leaves it.
unfoldable pub QueryReplyIs : State → Queried → List ℕ → Type 0
QueryReplyIs m Step text = text ≡ step_line (step_answer m)
QueryReplyIs m Display text = text ≡ display_line (display_answer m)
QueryReplyIs m (Record shelf k) text = text ≡ record_line (record_answer shelf m k)
QueryReplyIs m (Heavy v) text = (h : Result PlacedRecord Refusal) × HeavyAnswer m v.0 h × (text ≡ heavy_line h)

-- the text that answers line `number`, from the meter before it and what a call did: a call's line, the query's, or what is
-- wrong; nothing for a line that says nothing
unfoldable pub ReplyIs : State → ℕ → Result Request Fault → Result Codes Refusal → List ℕ → Type 0
ReplyIs m number (Ok Nothing) done text = text ≡ []
ReplyIs m number (Ok (Call c n)) done text = text ≡ call_line done
ReplyIs m number (Ok (Query q)) done text = QueryReplyIs m q text
ReplyIs m number (Ok Show) done text = text ≡ status_lines m
ReplyIs m number (Err k) done text = text ≡ error_line number k

-- such a text stands at the start of the buffer
pub record Answered (Is : List ℕ → Type 0) (out : List ℕ) (r : ℕ) (after : List ℕ) : Type 0 where
  pub text : List ℕ
  pub holds : Is text
  pub written : Written text most_line out r after

-- the audited meter after a line
abbrev pub audited_after : AuditedMeter → Result Request Fault → List ℕ → AuditedMeter
audited_after d o bytes = (called_by d o bytes).audited

-- the text that answers it
abbrev pub Answers : AuditedMeter → ℕ → Result Request Fault → List ℕ → List ℕ → Type 0
Answers d number o bytes text = ReplyIs (state_in d.meter) number o (called_by d o bytes).done text

-- how many bytes a plan's record has; any other line has none
abbrev pub size_of : Result Request Fault → ℕ
size_of (Ok Nothing) = 0
size_of (Ok (Call c n)) = n
size_of (Ok (Query q)) = 0
size_of (Ok Show) = 0
size_of (Err k) = 0
