-- A journal's line: what it says, and the record that a plan brings.
use Rattle.std.specs.Prelude.{cond, List, [], ◌∷◌, ℕ, leb, length, Result, Ok, Err}
use Rattle.replay_lexer.specs.Words.{content, word_at}
use Rattle.replay_lexer.specs.Numbers.{wide_at, narrow_at}
use Rattle.replay_lexer.specs.Hex.{bytes_of}
use Rattle.units.specs.Volume.{volume, price}
use Rattle.calendar.specs.declared.Stamp.{Stamp}
use Rattle.records.specs.declared.Shelf.TheVariants as shelf
use Rattle.replay_parser.specs.declared.forms.Form.{Form}
use Rattle.replay_parser.specs.declared.forms.Kind.{Kind}
use Rattle.replay_parser.specs.declared.forms.Kind.TheVariants as kind
use Rattle.replay_parser.specs.declared.Fault.{Fault}
use Rattle.replay_parser.specs.declared.Request.{Request}
use Rattle.replay_parser.specs.declared.Request.TheVariants.{Nothing, Call, Query, Show}
use Rattle.replay_parser.specs.declared.Query.TheVariants.{Step, Display, Record, Heavy}
use Rattle.meter.specs.declared.Call.TheVariants as call
use Rattle.replay_parser.specs.Faults.{form_in}

-- DATE SECOND: the first two numbers of a call
unfoldable pub stamp_in : List ℕ → Stamp
stamp_in s = record { date = narrow_at s 1; second = narrow_at s 2 }

-- what a content without a fault says
unfoldable pub request_for : Kind → List ℕ → Request
request_for kind.Pulse s = Call (call.Pulses (record { stamp = stamp_in s; count = volume (narrow_at s 3) })) 0
request_for kind.Recharge s = Call (call.Recharge (record { stamp = stamp_in s; amount = price (wide_at s 3); serial = narrow_at s 4 })) 0
request_for kind.Plan s = Call (call.Load (record { stamp = stamp_in s; slot = narrow_at s 3 })) (length (bytes_of (word_at s 4)))
request_for kind.Alarms s = Call (call.Alarms (record { stamp = stamp_in s; alarm_1 = narrow_at s 3; alarm_2 = narrow_at s 4 })) 0
request_for kind.Command s = Call (call.Command (record { stamp = stamp_in s; code = narrow_at s 3 })) 0
request_for kind.Key s = Call (call.Key (record { stamp = stamp_in s })) 0
request_for kind.Tick s = Call (call.Tick (record { stamp = stamp_in s })) 0
request_for kind.Step s = Query Step
request_for kind.Display s = Query Display
request_for kind.Day s = Query (Record shelf.Day (wide_at s 1))
request_for kind.Month s = Query (Record shelf.Month (wide_at s 1))
request_for kind.Heavy s = Query (Heavy (volume (narrow_at s 1)))
request_for kind.Show s = Show

-- the record of a plan, the word behind its numbers; any other line has none
unfoldable pub record_by : Form → List ℕ → List ℕ
record_by f s = cond (leb f.words f.numbers) [] (bytes_of (word_at s f.words))

abbrev pub request_by : Result Form Fault → List ℕ → Result Request Fault
request_by (Ok f) s = Ok (request_for f.kind s)
request_by (Err n) s = Err n

abbrev pub bytes_by : Result Form Fault → List ℕ → List ℕ
bytes_by (Ok f) s = record_by f s
bytes_by (Err n) s = []

-- the same of a content: an empty one says nothing
unfoldable pub request_in : List ℕ → Result Request Fault
request_in [] = Ok Nothing
request_in (x ∷ l) = request_by (form_in (x ∷ l)) (x ∷ l)

unfoldable pub record_in : List ℕ → List ℕ
record_in [] = []
record_in (x ∷ l) = bytes_by (form_in (x ∷ l)) (x ∷ l)

-- what a line says
unfoldable pub request_of : List ℕ → Result Request Fault
request_of line = request_in (content line)

-- the record in it
unfoldable pub record_of : List ℕ → List ℕ
record_of line = record_in (content line)
