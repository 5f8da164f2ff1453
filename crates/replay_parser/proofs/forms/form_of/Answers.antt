-- The code's table is the definition's.
use Rattle.replay_parser.specs.Forms.{entries, form_of}
use Rattle.replay_parser.proofs.forms.form_of.Goals as goal

pub returns : goal.returns
unfolding form_of entries
returns c = c.form_by.ensures
