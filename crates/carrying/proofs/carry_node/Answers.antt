-- `carry_node` meets its contract: a live slot is written as it is read, one that is free or not there is zeros.
use Rattle.std.proofs.Common.{ℕ, List, sym, ap, ◌∙◌, arith, length, get_or, replicate}
use Rattle.meaning.specs.Layout.{Slot, free, Node, node_length, read_nodes, write_node}
use Rattle.laws.specs.Pieces.{stored}
use Rattle.labels.specs.Labels.{atoms_in}
use Rattle.labels.specs.Laws.{held-length}
use Rattle.meaning.specs.declared.Table.TheVariants.{Nodes}
use Rattle.carrying.proofs.Free.{live-there}
use Rattle.carrying.proofs.Slots.{node-again, node-gone}
use Rattle.carrying.proofs.carry_node.Goals as goal

pub node_mark-mark-requires : goal.node_mark-mark-requires
node_mark-mark-requires c =
    let a = c.args in
    (live-there a.host.now.layout a.host.now.nodes.now a.host.now.edges.now Nodes a.x (sym c.is_live.ensures ∙ c.if-is_live.true))

pub node_root-root-requires : goal.node_root-root-requires
node_root-root-requires c =
    let a = c.args in
    (live-there a.host.now.layout a.host.now.nodes.now a.host.now.edges.now Nodes a.x (sym c.is_live.ensures ∙ c.if-is_live.true))

pub node_label-requires : goal.node_label-requires
node_label-requires c =
    let a = c.args in
    (live-there a.host.now.layout a.host.now.nodes.now a.host.now.edges.now Nodes a.x (sym c.is_live.ensures ∙ c.if-is_live.true))

pub slice_bounds-store_node-end : goal.slice_bounds-store_node-end
slice_bounds-store_node-end c = sym (held-length c.in_hand-len.result c.in_hand-len.ensures.held)

pub store_node-requires : goal.store_node-requires
store_node-requires c =
    record {
      sized = c.requires.sized;
      i_in_bounds = (c.requires.x_in_bounds, omega (arith, ap length c.in_hand-len.ensures.atoms, ap length c.node_label.ensures.0, c.requires.x_len_bound));
    }

pub free_slot-requires : goal.free_slot-requires
free_slot-requires c =
    rw c.requires.sized.node c.requires.x_in_bounds

pub returns-then-is_live : goal.returns-then-is_live
returns-then-is_live c =
    let a = c.args in
    c.store_node.ensures ∙ ap (λ (s : Slot Node). stored (node_length a.to) a.x (write_node a.to s) a.out.now) (node-again (get_or (read_nodes a.host.now.layout a.host.now.nodes.now) a.x free) c.node_mark-mark.result c.node_root-root.result (atoms_in c.in_hand-len.result) (sym c.is_live.ensures ∙ c.if-is_live.true) c.node_mark-mark.ensures c.node_root-root.ensures (c.in_hand-len.ensures.atoms ∙ c.node_label.ensures.0))

pub returns-else-is_live : goal.returns-else-is_live
returns-else-is_live c =
    let a = c.args in
    c.free_slot.ensures ∙ (λ i. stored (c.requires.sized.node i) a.x (replicate (c.requires.sized.node i) 0) a.out.now) ∙ ap (λ (b : List ℕ). stored (node_length a.to) a.x b a.out.now) (node-gone a.to (get_or (read_nodes a.host.now.layout a.host.now.nodes.now) a.x free) (sym c.is_live.ensures ∙ c.if-is_live.false))
