-- `store_node` meets its contract: the node is the one that is read again, and its label has room.
use Rattle.std.proofs.Common.{◌∙◌, ap}
use Rattle.meaning.specs.Layout.{live, node_length, write_node}
use Rattle.laws.specs.Pieces.{stored}
use Rattle.importing.proofs.Held.{node-there, node-label, node-held}
use Rattle.importing.proofs.storing.store_node.Goals as goal

pub unwrap-label-requires : goal.unwrap-label-requires
unwrap-label-requires c =
    let a = c.args in
    node-there a.l c.requires.sized.1 a.text.now a.at c.unwrap-n.result (rw c.unwrap-n.ensures at c.read_node.ensures) c.requires.item

pub store_node-requires : goal.store_node-requires
store_node-requires c =
    let a = c.args in
    record {
      sized = c.requires.sized.0;
      i_in_bounds = (c.requires.x_in_bounds, (node-label a.l c.requires.sized.1 a.text.now a.at c.unwrap-n.result (rw c.unwrap-n.ensures at c.read_node.ensures) c.requires.item c.unwrap-label.result c.unwrap-label.ensures).size);
    }

pub returns : goal.returns
returns c =
    let a = c.args in
    λ w. c.store_node.ensures ∙ ap (λ n. stored (node_length a.l) a.x (write_node a.l (live n)) a.out.now) (node-held a.l c.requires.sized.1 a.text.now a.at c.unwrap-n.result (rw c.unwrap-n.ensures at c.read_node.ensures) w c.unwrap-label.result c.unwrap-label.ensures)
