-- `ledger::add_node` meets its contract.
use Rattle.ledger.proofs.Free.{node-lowest_in, node-lowest}
use Rattle.ledger.proofs.add_node.Goals as goal

pub store_node-requires-clause-x_in_bounds : goal.store_node-requires-clause-x_in_bounds
store_node-requires-clause-x_in_bounds c =
    (node-lowest_in c.args.l c.requires.held.sized c.args.nodes.now _ c.lowest_free-x.ensures c.requires.nonzero.0, c.requires.nonzero.1)

pub returns : goal.returns
returns c = (node-lowest c.args.l c.requires.held.sized c.args.nodes.now _ c.lowest_free-x.ensures, c.store_node.ensures)
