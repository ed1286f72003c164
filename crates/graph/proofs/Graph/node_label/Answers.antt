-- `node_label` meets its contract: a node's label lies in its slot, and has few enough atoms.
use Rattle.std.proofs.Common.{arith}
use Rattle.meaning.specs.Layout.{head_length}
use Rattle.graph.proofs.Slots.{label-lies}
use Rattle.graph.proofs.Graph.node_label.Goals as goal

pub returns : goal.returns
returns c =
    let b = c.node_bytes.ensures.said in
    let n = c.node_bytes.ensures.len in
    label-lies c.node_bytes.result.now head_length c.label.ensures b.label (omega (arith, n, b.size)) (omega (arith, b.size, c.args.self.now.legal.few))
