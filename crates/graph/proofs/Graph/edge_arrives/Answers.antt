-- `edge_arrives` meets its contract: what it tests of the edge, in the order of the definition.
use Rattle.meaning.specs.Basics.{both}
use Rattle.meaning.specs.Matching.{edge_arrives}
use Rattle.graph.proofs.Graph.edge_arrives.Goals as goal

pub returns-then-edge_live : goal.returns-then-edge_live
unfolding edge_arrives both
returns-then-edge_live c =
    rw (
      ← c.edge_live.ensures,
      ← c.edge_target.ensures,
      c.if-edge_live.true,
    )

pub returns-else-edge_live : goal.returns-else-edge_live
unfolding edge_arrives both
returns-else-edge_live c = rw (← c.edge_live.ensures, c.if-edge_live.false)
