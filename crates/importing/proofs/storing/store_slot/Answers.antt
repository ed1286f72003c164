-- `store_slot` meets its contract: the item of number x, table by table, or zeros.
use Rattle.std.proofs.Common.{◌∙◌, ap, replicate}
use Rattle.meaning.specs.declared.Table.TheVariants.{Nodes, Edges}
use Rattle.laws.specs.Pieces.{stored}
use Rattle.host.specs.Tables.{slot_length}
use Rattle.importing.specs.Names.{names_at}
use Rattle.importing.proofs.Slots.{item-at, item-bytes, none-bytes}
use Rattle.importing.proofs.storing.store_slot.Goals as goal

pub store_node-requires : goal.store_node-requires
store_node-requires c =
    let a = c.args in
    let p = rw c.in-Nodes.is at c.requires in
    record {
      sized = p.sized;
      x_in_bounds = p.x_in_bounds;
      item = item-at a.l a.text.now Nodes a.places.now p.items a.x c.if-x-places.true;
    }

pub store_edge-requires : goal.store_edge-requires
store_edge-requires c =
    let a = c.args in
    let p = rw c.in-Edges.is at c.requires in
    record {
      sized = p.sized;
      x_in_bounds = p.x_in_bounds;
      item = item-at a.l a.text.now Edges a.places.now p.items a.x c.if-x-places.true;
    }

pub free_slot-requires : goal.free_slot-requires
free_slot-requires c = rw c.slot_length.ensures c.requires.x_in_bounds

pub returns-in-Nodes : goal.returns-in-Nodes
returns-in-Nodes c =
    let a = c.args in
    let n = names_at a.text.now a.node_places.now in
    rw c.in-Nodes.is
    (λ w. c.store_node.ensures (item-at a.l a.text.now Nodes a.places.now w a.x c.if-x-places.true) ∙ ap (λ b. stored (slot_length a.l Nodes) a.x b a.out.now) (item-bytes a.l a.text.now Nodes a.places.now w a.x n c.if-x-places.true))

pub returns-in-Edges : goal.returns-in-Edges
returns-in-Edges c =
    let a = c.args in
    let n = names_at a.text.now a.node_places.now in
    rw c.in-Edges.is
    (λ w. c.store_edge.ensures (item-at a.l a.text.now Edges a.places.now w a.x c.if-x-places.true) ∙ ap (λ b. stored (slot_length a.l Edges) a.x b a.out.now) (item-bytes a.l a.text.now Edges a.places.now w a.x n c.if-x-places.true))

pub returns-else-x-places : goal.returns-else-x-places
returns-else-x-places c =
    let a = c.args in
    let n = names_at a.text.now a.node_places.now in
    λ w. c.free_slot.ensures ∙ ap (λ k. stored k a.x (replicate k 0) a.out.now) c.slot_length.ensures ∙ ap (λ b. stored (slot_length a.l a.which) a.x b a.out.now) (none-bytes a.l a.text.now a.which a.places.now w a.x n c.if-x-places.false)
