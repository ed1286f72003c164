-- `applying::change_left` meets its contract: the left nodes are handed what the left edges left.
use Rattle.applying.specs.Halves.{Unhindered}
use Rattle.applying.proofs.Parts.{LeftCounted, right_there, go-next, alters, left-done}
use Rattle.applying.proofs.change_left.Goals as goal
use Rattle.applying.proofs.change_left.Goals.{After-edge_count-m}

abbrev Here : (c : After-edge_count-m) → Type 0
Here c =
    let a = c.args in
    Unhindered a.l a.nodes.now a.edges.now a.journal.now a.used a.rule.now a.slots.now a.values.now.lens a.values.now.atoms

counted : (c : After-edge_count-m) (u : Here c)
    → LeftCounted u.match.tree c.left_part-left.result.now c.right_part-right.result.now c.preserving-preserving.result c.interface_of-k.result c.node_count-n.result c.edge_count-m.result
counted c u =
    let left = c.left_part-left.ensures _ u.match.is in
    record {
      left = left;
      right = c.right_part-right.ensures _ u.match.is;
      interface = c.interface_of-k.ensures _ u.match.is;
      mode = c.preserving-preserving.ensures _ u.match.is;
      nodes = c.node_count-n.ensures.fact _ left;
      edges = c.edge_count-m.ensures _ left (c.node_count-n.ensures.fact _ left);
    }

pub free_edges-requires : goal.free_edges-requires
free_edges-requires c = let u = c.requires in let t = go-next u (right_there u).1 (counted (goal.at.free_edges-requires c).After-edge_count-m u) in record {
  held = t.0;
  m_in_bounds = t.1;
  below = t.2;
}

pub change_nodes-requires : goal.change_nodes-requires
change_nodes-requires c = let u = c.requires in let gone = c.free_edges.ensures in record {
  held = gone.leads.held;
  alters = alters u (right_there u).1 (counted (goal.at.change_nodes-requires c).After-edge_count-m u) gone;
}

pub returns : goal.returns
returns c = λ u right q. let s = counted (goal.at.returns c).After-edge_count-m u in let gone = c.free_edges.ensures in left-done u q s gone (c.change_nodes.ensures (alters u q s gone))
