-- `import_into` meets its contract: the text is no graph, or the graph is imported.
use Rattle.std.proofs.Common.{arith}
use Rattle.importing.proofs.Imports.{no-graph, is-graph}
use Rattle.importing.proofs.import_into.Goals as goal

pub returns-in_default : goal.returns-in_default
returns-in_default c =
    let a = c.args in
    no-graph a.l a.text.now a.nodes.now a.edges.now c.requires.fitting c.in_default.ensures

pub import_graph-requires : goal.import_graph-requires
import_graph-requires c =
    let a = c.args in
    let k = c.read_graph.auto in
    record {
      graph = is-graph a.l a.text.now a.nodes.now a.edges.now c.requires.fitting _ _ c.in-Ok.g c.in-Ok.ensures (omega (arith, c.requires.nodes_in_bounds.0, k.node_places), omega (arith, c.requires.nodes_in_bounds.1, k.edge_places));
      fitting = c.requires.fitting;
    }
