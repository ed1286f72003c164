-- `part_agrees` meets its contract.
use Rattle.std.proofs.Common.{arith}
use Rattle.slots.specs.Comparing.{laid-length}
use Rattle.agreeing.proofs.part_agrees.Goals as goal

pub overflow_add-result : goal.overflow_add-result
overflow_add-result c = omega (arith, c.has_part.ensures.1 c.if-has_part.true, c.count.ensures, laid-length c.args.a.now, c.well_formed)
