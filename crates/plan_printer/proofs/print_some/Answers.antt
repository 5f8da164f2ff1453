-- What was read is at most the buffer, so that its lines fit.
use Rattle.std.proofs.Common.{length-take, arith}
use Rattle.plan_line.specs.Records.{records_in}
use Rattle.plan_printer.proofs.print_some.Goals as goal

pub lines-n-requires : goal.lines-n-requires
unfolding records_in
lines-n-requires g c = simp length-take (omega (arith, c.requires, c.read_full.auto.records))
