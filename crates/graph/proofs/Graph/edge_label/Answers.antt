-- `edge_label` meets its contract: an edge's label lies in its slot, and has few enough atoms.
use Rattle.std.proofs.Common.{arith}
use Rattle.meaning.specs.Layout.{edge_atoms}
use Rattle.graph.proofs.Slots.{label-lies}
use Rattle.graph.proofs.Graph.edge_label.Goals as goal

pub returns : goal.returns
returns c =
    let b = c.edge_bytes.ensures.said in
    let n = c.edge_bytes.ensures.len in
    label-lies c.edge_bytes.result.now (edge_atoms c.args.self.now.layout) (rw c.edge_atoms.ensures at c.label.ensures) b.label (omega (arith, n, b.size)) (omega (arith, b.size, c.args.self.now.legal.few))
