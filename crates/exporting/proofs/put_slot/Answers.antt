-- `put_slot` meets its contract, table by table.
use Rattle.exporting.proofs.put_slot.Goals as goal

pub put_node-requires : goal.put_node-requires
put_node-requires c =
    let q = c.in-Nodes.is in
    record {
      x_in_bounds = rw q at c.requires.x_bound;
      node_size_bound = rw q at c.requires.table_bound;
    }

pub put_edge-requires : goal.put_edge-requires
put_edge-requires c =
    let q = c.in-Edges.is in
    record {
      x_in_bounds = rw q at c.requires.x_bound;
      edge_size_bound = rw q at c.requires.table_bound;
    }

pub returns-in-Nodes : goal.returns-in-Nodes
returns-in-Nodes c = rw c.in-Nodes.is c.put_node.ensures

pub returns-in-Edges : goal.returns-in-Edges
returns-in-Edges c = rw c.in-Edges.is c.put_edge.ensures
