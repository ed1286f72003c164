-- `laid::part` meets its contract.
use Rattle.std.proofs.Common.{◌*◌, arith}
use native.Mathlib.Nat.{add-sub_cancel_left}
use Rattle.meaning.specs.Layout.{atom_length}
use Rattle.slots.specs.Comparing.{laid-length, laid-part}
use Rattle.slots.proofs.laid.part.Goals as goal

pub overflow_mul-start : goal.overflow_mul-start
overflow_mul-start c = omega (arith, laid-length c.args.a.now, c.requires, c.well_formed)

pub overflow_mul-end : goal.overflow_mul-end
overflow_mul-end c = omega (arith, laid-length c.args.a.now, c.requires, c.well_formed)

pub overflow_add-end : goal.overflow_add-end
overflow_add-end c = omega (arith, laid-length c.args.a.now, c.requires, c.well_formed)

pub slice_bounds-result-end : goal.slice_bounds-result-end
slice_bounds-result-end c = omega (arith, laid-length c.args.a.now, c.requires)

pub returns : goal.returns
returns c = rw (add-sub_cancel_left (atom_length * c.args.from) (atom_length * c.args.n)) (laid-part c.args.a.now c.args.from c.args.n c.requires)
