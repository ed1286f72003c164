-- `import_graph` meets its contract: refused, nothing is written; else both tables.
use Rattle.answers.specs.Answers.{refusal_of}
use Rattle.importing.proofs.Imports.{graph-refused, items_of, nodes-ready, edges-ready, imported}
use Rattle.importing.proofs.import_graph.Goals as goal

pub returns-in-Err : goal.returns-in-Err
unfolding refusal_of
returns-in-Err c =
    let a = c.args in
    graph-refused a.l a.text.now a.nodes.now a.edges.now c.requires.fitting c.in-Err.why c.in-Err.ensures

pub slice_bounds-named-end : goal.slice_bounds-named-end
unfolding refusal_of
slice_bounds-named-end c =
    let a = c.args in
    (nodes-ready a.l a.text.now a.nodes.now a.edges.now c.requires.fitting a.node_places.now a.edge_places.now a.g c.requires.graph c.in_default.ensures).counted

pub slice_bounds-places-end : goal.slice_bounds-places-end
unfolding refusal_of
slice_bounds-places-end c =
    let a = c.args in
    (edges-ready a.l a.text.now a.nodes.now a.edges.now c.requires.fitting a.node_places.now a.edge_places.now a.g c.requires.graph c.in_default.ensures).counted

pub store_table-requires : goal.store_table-requires
unfolding refusal_of
store_table-requires c =
    let a = c.args in
    let r = nodes-ready a.l a.text.now a.nodes.now a.edges.now c.requires.fitting a.node_places.now a.edge_places.now a.g c.requires.graph c.in_default.ensures in
    record { sized = (c.requires.fitting.sized, c.requires.fitting.atoms); places_len_bound = r.room; items = items_of r }

pub store_table-requires-2 : goal.store_table-requires-2
unfolding refusal_of
store_table-requires-2 c =
    let a = c.args in
    let r = edges-ready a.l a.text.now a.nodes.now a.edges.now c.requires.fitting a.node_places.now a.edge_places.now a.g c.requires.graph c.in_default.ensures in
    record { sized = (c.requires.fitting.sized, c.requires.fitting.atoms); places_len_bound = r.room; items = items_of r }

pub returns : goal.returns
unfolding refusal_of
returns c =
    let a = c.args in
    imported a.l a.text.now a.nodes.now a.edges.now c.requires.fitting a.node_places.now a.edge_places.now a.g c.requires.graph c.in_default.ensures _ _ c.store_table.ensures c.store_table-2.ensures
