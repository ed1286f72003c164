-- `ledger::store_node` meets its contract.
use Rattle.std.proofs.Common.{[]}
use Rattle.ledger.specs.Steps.{node_done}
use Rattle.ledger.proofs.store_node.Goals as goal

pub returns : goal.returns
returns c = node_done c.args.l c.args.nodes.now c.args.edges.now c.args.journal.now c.args.used c.requires.held _ _ [] _ c.args.x _ c.requires.legal_node c.requires.x_in_bounds c.slot-before.ensures.0 c.append.ensures c.store_node.ensures
