-- `edge_bytes` meets its contract: the bytes of a slot of a legal host say what it has.
use Rattle.std.proofs.Common.{◌∙◌}
use Rattle.graph.proofs.Slots.{edge-there, edge-bytes}
use Rattle.graph.proofs.Graph.edge_bytes.Goals as goal

pub slot-requires : goal.slot-requires
slot-requires c = edge-there c.args.self.now.legal _ c.requires

pub returns : goal.returns
returns c = record {
  said = edge-bytes c.args.self.now.legal _ c.requires _ c.slot.ensures.0;
  len = c.slot.ensures.1 ∙ c.args.self.now.legal.sized.edge;
}
