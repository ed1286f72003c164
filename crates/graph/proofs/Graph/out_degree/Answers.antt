use Rattle.std.proofs.Common.{refl, ◌∙◌, arith}
use Rattle.meaning.specs.Basics.{count}
use Rattle.meaning.specs.Matching.{edge_leaves, out_degree}
use Rattle.meaning.specs.Laws.Loops.{count_yes, count_no, count-end}
use Rattle.graph.proofs.Graph.out_degree.Goals as goal
use Rattle.graph.proofs.Graph.out_degree.Goals.{then-edge_leaves, else-edge_leaves}

pub loop-x-init : goal.loop-x-init
unfolding count
loop-x-init c = (omega arith, refl)

pub loop-x-preserved : goal.loop-x-preserved
loop-x-preserved c =
    let e = c.edge_leaves.ensures in
    elim c.if-edge_leaves.branch [
      | then-edge_leaves b ↦ (omega (arith, b.leaving-is, c.loop-x.invariant.0), b.leaving-is ∙ count_yes _ _ e b.if-edge_leaves.true _ c.loop-x.invariant.1)
      | else-edge_leaves b ↦ (omega (arith, b.leaving-is, c.loop-x.invariant.0), b.leaving-is ∙ count_no _ _ e b.if-edge_leaves.false _ c.loop-x.invariant.1)
    ]

pub returns : goal.returns
unfolding out_degree
returns c = rw (← c.edge_slots-x-end.ensures) (count-end _ _ _ (omega arith) _ c.loop-x.invariant.1)
