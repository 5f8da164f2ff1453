-- A line replayed in two halves, the call and the text, is replayed as its request and its record say. Assumes nothing.
use mathlib.Core.Path.{◌≡◌, refl}
use mathlib.Core.List.{List}
use Prim.Native.Nat.{ℕ}
use lib.ListN.{take}
use Rattle.meter.specs.Machine.{state_in}
use Rattle.audited_meter.specs.declared.AuditedMeter.{AuditedMeter}
use Rattle.audited_meter.specs.declared.CallResult.{CallResult}
use Rattle.text.specs.Decimal.{starting_with}
use Rattle.text.specs.Written.{Written}
use Rattle.text_writer.specs.TextWriter.{most_line}
use Rattle.std.specs.Prelude.{Result}
use Rattle.replay_parser.specs.declared.Fault.{Fault}
use Rattle.replay_parser.specs.declared.Request.{Request}
use Rattle.replay_parser.specs.Requests.{request_of, record_of}
use Rattle.replay_step.specs.ReplayStep.{called_by, ReplyIs, Answered, audited_after, Answers, size_of}
use Rattle.replay_step.proofs.RecordOfLine.{kept}

-- a text that is written and is what it should be
pub answer : {Is : List ℕ → Type 0} {text out after : List ℕ} {r : ℕ} → Written text most_line out r after → Is text → Answered Is out r after
answer {text = text} w s = record { text = text; holds = s; written = w }

pub replayed : (d : AuditedMeter) (number : ℕ) (line scratch₀ : List ℕ) {o : Result Request Fault} {scratch : List ℕ} {p : CallResult}
    → o ≡ request_of line → scratch ≡ starting_with (record_of line) scratch₀ → p ≡ called_by d o (take (size_of o) scratch)
    → (p.audited ≡ audited_after d (request_of line) (record_of line))
    × ((text : List ℕ) → ReplyIs (state_in d.meter) number o p.done text → Answers d number (request_of line) (record_of line) text)
replayed d number line scratch₀ {o} {scratch} {p} e f g =
    rw (g, kept line scratch₀ e f, ← e) (refl, λ text s. s)
