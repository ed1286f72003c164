-- `store_edge` meets its contract: the edge is the one that is read again, and its label has room.
use Rattle.std.proofs.Common.{◌∙◌, ap}
use Rattle.meaning.specs.Layout.{live, edge_length, write_edge}
use Rattle.laws.specs.Pieces.{stored}
use Rattle.importing.specs.Names.{names_at}
use Rattle.importing.proofs.Ends.{numbered}
use Rattle.importing.proofs.Held.{edge-there, edge-label, edge-held}
use Rattle.importing.proofs.storing.store_edge.Goals as goal

pub unwrap-label-requires : goal.unwrap-label-requires
unwrap-label-requires c =
    let a = c.args in
    edge-there a.l c.requires.sized.1 a.text.now a.at c.unwrap-e.result (rw c.unwrap-e.ensures at c.read_edge.ensures) c.requires.item

pub store_edge-requires : goal.store_edge-requires
store_edge-requires c =
    let a = c.args in
    record {
      sized = c.requires.sized.0;
      i_in_bounds = (c.requires.x_in_bounds, (edge-label a.l c.requires.sized.1 a.text.now a.at c.unwrap-e.result (rw c.unwrap-e.ensures at c.read_edge.ensures) c.requires.item c.unwrap-label.result c.unwrap-label.ensures).size);
    }

pub returns : goal.returns
returns c =
    let a = c.args in
    let bs = a.text.now in
    let ps = a.node_places.now in
    let s = c.unwrap_or-source.ensures ∙ numbered bs ps _ c.find.result c.find.ensures in
    let t = c.unwrap_or-target.ensures ∙ numbered bs ps _ c.find-2.result c.find-2.ensures in
    λ w. c.store_edge.ensures ∙ ap (λ e. stored (edge_length a.l) a.x (write_edge a.l (live e)) a.out.now) (edge-held a.l c.requires.sized.1 bs a.at c.unwrap-e.result (rw c.unwrap-e.ensures at c.read_edge.ensures) w c.unwrap-label.result c.unwrap-label.ensures (names_at bs ps) _ _ s t)
