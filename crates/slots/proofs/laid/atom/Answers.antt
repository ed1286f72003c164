-- `laid::atom` meets its contract: an atom is the number in its own bytes.
use Rattle.std.proofs.Common.{◌∙◌, arith}
use Rattle.slots.specs.Comparing.{laid-length, laid-at}
use Rattle.slots.proofs.laid.atom.Goals as goal

pub overflow_mul-k : goal.overflow_mul-k
overflow_mul-k c = omega (arith, laid-length c.args.a.now, c.requires, c.well_formed)

pub number4-requires : goal.number4-requires
number4-requires c = omega (arith, laid-length c.args.a.now, c.requires)

pub returns : goal.returns
returns c = c.number4.ensures.0 ∙ laid-at c.args.a.now c.args.k c.requires
