-- `node_slots` meets its contract: the layout holds the length of a slot.
use Rattle.graph.proofs.Slots.{node-slots}
use Rattle.graph.proofs.node_slots.Goals as goal

pub returns : goal.returns
returns c = node-slots c.requires c.args.nodes.now
