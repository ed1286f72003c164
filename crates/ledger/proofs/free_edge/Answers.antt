-- `ledger::free_edge` meets its contract.
use Rattle.std.proofs.Common.{[]}
use Rattle.ledger.specs.Steps.{edge-gone}
use Rattle.ledger.proofs.free_edge.Goals as goal

pub returns : goal.returns
returns c = edge-gone c.args.l c.args.nodes.now c.args.edges.now c.args.journal.now c.args.used c.requires.held _ [] _ _ c.args.x c.requires.x_in_bounds c.slot-before.ensures.0 c.append.ensures c.free_slot.ensures
