-- `end_of` meets its contract: an edge's payload has each end at its place.
use Rattle.std.proofs.Common.{sym, ◌∙◌, arith}
use Rattle.plan.specs.Places.{planned-edge, edge-there, end-there}
use Rattle.plan.proofs.PlannedRule.end_of.Goals as goal

pub overflow_add-start-3 : goal.overflow_add-start-3
overflow_add-start-3 c = omega (arith, c.place.ensures, end-there c.requires c.args.side)

pub bounds-self-start : goal.bounds-self-start
bounds-self-start c = omega (arith, c.place.ensures, end-there c.requires c.args.side)

pub returns : goal.returns
returns c =
    let e = c.place.ensures in
    λ r l. rw e at c.from.ensures ∙ sym ((planned-edge l c.args.k (edge-there c.requires)).ends c.args.side)
