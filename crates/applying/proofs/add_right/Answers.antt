-- `applying::add_right` meets its contract: the right edges are handed what the new nodes left.
use Rattle.std.proofs.Common.{◌-◌, arith}
use Rattle.applying.specs.Halves.{Halfway}
use Rattle.applying.proofs.Parts.{RightCounted, interface-fits, new-count, grows, right-fits, joins, joined}
use Rattle.applying.proofs.add_right.Goals as goal
use Rattle.applying.proofs.add_right.Goals.{After-edge_count-count}

abbrev Here : (c : After-edge_count-count) → Type 0
Here c =
    let a = c.args in
    Halfway a.l a.nodes.now a.edges.now a.journal.now a.used a.rule.now a.slots.now a.values.now.lens a.values.now.atoms

counted : (c : After-edge_count-count) (w : Here c)
    → RightCounted w.start.match.tree c.right_part-right.result.now c.interface_of-k.result (c.node_count-right_nodes.result - c.interface_of-k.result) c.edge_count-count.result
counted c w =
    let right = c.right_part-right.ensures _ w.start.match.is in
    let k = c.interface_of-k.ensures _ w.start.match.is in
    record {
      right = right;
      interface = k;
      added = new-count w.start k (c.node_count-right_nodes.ensures.fact _ right);
      right_edges = c.edge_count-count.ensures _ right (c.node_count-right_nodes.ensures.fact _ right);
    }

pub overflow_sub-new : goal.overflow_sub-new
overflow_sub-new c = let u = c.requires.start in interface-fits u (c.interface_of-k.ensures _ u.match.is) (c.node_count-right_nodes.ensures.fact _ (c.right_part-right.ensures _ u.match.is))

pub new_nodes-places-requires : goal.new_nodes-places-requires
new_nodes-places-requires c = let w = c.requires in record {
  held = w.left.went.leads.held;
  grows = grows w.start w.values (counted (goal.at.new_nodes-places-requires c).After-edge_count-count w) w.left;
}

pub new_edges-requires : goal.new_edges-requires
new_edges-requires c = let w = c.requires in let s = counted (goal.at.new_edges-requires c).After-edge_count-count w in let grew = c.new_nodes-places.ensures (grows w.start w.values s w.left) in record {
  held = grew.went.leads.held;
  edges = joins w.start w.values s w.left grew;
}

pub overflow_add-result : goal.overflow_add-result
overflow_add-result c = let w = c.requires in omega (arith, right-fits w.start w.values (counted (goal.at.overflow_add-result c).After-edge_count-count w) w.left, c.well_formed)

pub returns : goal.returns
returns c = λ w. let s = counted (goal.at.returns c).After-edge_count-count w in let grew = c.new_nodes-places.ensures (grows w.start w.values s w.left) in joined w.start w.values s w.left grew (c.new_edges.ensures (joins w.start w.values s w.left grew))
