-- Each call has one decimal less.
use Rattle.text_writer.proofs.+put_fixed.Given as goal

abbrev pub decreases-put_fixed : goal.decreases-put_fixed
decreases-put_fixed l = l.k
