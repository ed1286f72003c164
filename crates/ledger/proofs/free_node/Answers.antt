-- `ledger::free_node` meets its contract.
use Rattle.std.proofs.Common.{[]}
use Rattle.ledger.specs.Steps.{node-gone}
use Rattle.ledger.proofs.free_node.Goals as goal

pub returns : goal.returns
returns c = node-gone c.args.l c.args.nodes.now c.args.edges.now c.args.journal.now c.args.used c.requires.held _ _ [] _ c.args.x c.requires.x_in_bounds c.slot-before.ensures.0 c.append.ensures c.free_slot.ensures
