-- `edge_slots` meets its contract: the layout holds the length of a slot.
use Rattle.graph.proofs.Slots.{edge-slots}
use Rattle.graph.proofs.edge_slots.Goals as goal

pub returns : goal.returns
returns c = edge-slots c.requires c.args.edges.now
