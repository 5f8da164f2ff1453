-- A good plan has at most six steps, and its numbers are put.
use Rattle.std.proofs.Common.{arith}
use Rattle.text.proofs.Behind.{within}
use Rattle.plan.proofs.GoodPlan.{steps-range}
use Rattle.plan_line.proofs.plan_line.Goals as goal

pub numbers_of-requires : goal.numbers_of-requires
numbers_of-requires c = (steps-range c.args.p c.requires.0).1

pub put_numbers-requires : goal.put_numbers-requires
put_numbers-requires c = rw c.as_slice.ensures.value (omega arith, omega arith)

pub returns : goal.returns
returns c = within (rw (← c.numbers_of.ensures.value, c.as_slice.ensures.value)) (rw c.as_slice.ensures.value (omega arith)) c.put_numbers.ensures
