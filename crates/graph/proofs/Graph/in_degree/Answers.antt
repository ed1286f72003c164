use Rattle.std.proofs.Common.{refl, ◌∙◌, arith}
use Rattle.meaning.specs.Basics.{count}
use Rattle.meaning.specs.Matching.{edge_arrives, in_degree}
use Rattle.meaning.specs.Laws.Loops.{count_yes, count_no, count-end}
use Rattle.graph.proofs.Graph.in_degree.Goals as goal
use Rattle.graph.proofs.Graph.in_degree.Goals.{then-edge_arrives, else-edge_arrives}

pub loop-x-init : goal.loop-x-init
unfolding count
loop-x-init c = (omega arith, refl)

pub loop-x-preserved : goal.loop-x-preserved
loop-x-preserved c =
    let e = c.edge_arrives.ensures in
    elim c.if-edge_arrives.branch [
      | then-edge_arrives b ↦ (omega (arith, b.arriving-is, c.loop-x.invariant.0), b.arriving-is ∙ count_yes _ _ e b.if-edge_arrives.true _ c.loop-x.invariant.1)
      | else-edge_arrives b ↦ (omega (arith, b.arriving-is, c.loop-x.invariant.0), b.arriving-is ∙ count_no _ _ e b.if-edge_arrives.false _ c.loop-x.invariant.1)
    ]

pub returns : goal.returns
unfolding in_degree
returns c = rw (← c.edge_slots-x-end.ensures) (count-end _ _ _ (omega arith) _ c.loop-x.invariant.1)
