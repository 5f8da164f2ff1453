-- The code of a plan's end and that of closing are noted one after the other.
use Rattle.account.specs.Valve.{expiry_codes}
use Rattle.account.proofs.CodesNoted.{note-append}
use Rattle.account.proofs.Codes.expiry.Goals as goal

pub returns : goal.returns
unfolding expiry_codes
returns c = rw (c.note_if-2.ensures, c.note_if.ensures, c.none.ensures, note-append)
