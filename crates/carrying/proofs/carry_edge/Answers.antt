-- `carry_edge` meets its contract: a live slot is written as it is read, one that is free or not there is zeros.
use Rattle.std.proofs.Common.{ℕ, List, sym, ap, ◌∙◌, arith, length, get_or, replicate}
use Rattle.meaning.specs.Layout.{Slot, free, Edge, edge_length, read_edges, write_edge}
use Rattle.laws.specs.Pieces.{stored}
use Rattle.labels.specs.Labels.{atoms_in}
use Rattle.labels.specs.Laws.{held-length}
use Rattle.meaning.specs.declared.Table.TheVariants.{Edges}
use Rattle.carrying.proofs.Free.{live-there}
use Rattle.carrying.proofs.Slots.{edge-again, edge-gone}
use Rattle.carrying.proofs.carry_edge.Goals as goal

pub edge_mark-mark-requires : goal.edge_mark-mark-requires
edge_mark-mark-requires c =
    let a = c.args in
    (live-there a.host.now.layout a.host.now.nodes.now a.host.now.edges.now Edges a.x (sym c.is_live.ensures ∙ c.if-is_live.true))

pub edge_source-source-requires : goal.edge_source-source-requires
edge_source-source-requires c =
    let a = c.args in
    (live-there a.host.now.layout a.host.now.nodes.now a.host.now.edges.now Edges a.x (sym c.is_live.ensures ∙ c.if-is_live.true))

pub edge_target-target-requires : goal.edge_target-target-requires
edge_target-target-requires c =
    let a = c.args in
    (live-there a.host.now.layout a.host.now.nodes.now a.host.now.edges.now Edges a.x (sym c.is_live.ensures ∙ c.if-is_live.true))

pub edge_label-requires : goal.edge_label-requires
edge_label-requires c =
    let a = c.args in
    (live-there a.host.now.layout a.host.now.nodes.now a.host.now.edges.now Edges a.x (sym c.is_live.ensures ∙ c.if-is_live.true))

pub slice_bounds-store_edge-end : goal.slice_bounds-store_edge-end
slice_bounds-store_edge-end c = sym (held-length c.in_hand-len.result c.in_hand-len.ensures.held)

pub store_edge-requires : goal.store_edge-requires
store_edge-requires c =
    record {
      sized = c.requires.sized;
      i_in_bounds = (c.requires.x_in_bounds, omega (arith, ap length c.in_hand-len.ensures.atoms, ap length c.edge_label.ensures.0, c.requires.x_len_bound));
    }

pub free_slot-requires : goal.free_slot-requires
free_slot-requires c =
    rw c.requires.sized.edge c.requires.x_in_bounds

pub returns-then-is_live : goal.returns-then-is_live
returns-then-is_live c =
    let a = c.args in
    c.store_edge.ensures ∙ ap (λ (s : Slot Edge). stored (edge_length a.to) a.x (write_edge a.to s) a.out.now) (edge-again (get_or (read_edges a.host.now.layout a.host.now.edges.now) a.x free) c.edge_mark-mark.result c.edge_source-source.result c.edge_target-target.result (atoms_in c.in_hand-len.result) (sym c.is_live.ensures ∙ c.if-is_live.true) c.edge_mark-mark.ensures c.edge_source-source.ensures c.edge_target-target.ensures (c.in_hand-len.ensures.atoms ∙ c.edge_label.ensures.0))

pub returns-else-is_live : goal.returns-else-is_live
returns-else-is_live c =
    let a = c.args in
    c.free_slot.ensures ∙ (λ i. stored (c.requires.sized.edge i) a.x (replicate (c.requires.sized.edge i) 0) a.out.now) ∙ ap (λ (b : List ℕ). stored (edge_length a.to) a.x b a.out.now) (edge-gone a.to (get_or (read_edges a.host.now.layout a.host.now.edges.now) a.x free) (sym c.is_live.ensures ∙ c.if-is_live.false))
