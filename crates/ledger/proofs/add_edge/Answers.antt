-- `ledger::add_edge` meets its contract.
use Rattle.ledger.proofs.Free.{edge-lowest_in, edge-lowest}
use Rattle.ledger.proofs.add_edge.Goals as goal

pub store_edge-requires-clause-x_in_bounds : goal.store_edge-requires-clause-x_in_bounds
store_edge-requires-clause-x_in_bounds c =
    (edge-lowest_in c.args.l c.requires.held.sized c.args.edges.now _ c.lowest_free-x.ensures c.requires.nonzero.0, c.requires.nonzero.1)

pub returns : goal.returns
returns c = (edge-lowest c.args.l c.requires.held.sized c.args.edges.now _ c.lowest_free-x.ensures, c.store_edge.ensures)
