-- `read_item` meets its contract.
use Rattle.std.proofs.lemmas.Result.{err_from_is_err_and}
use Rattle.items.proofs.Single.{node-item, node-broken, edge-item, edge-broken}
use Rattle.items.proofs.read_item.Goals as goal

pub returns-in_err-n-in-Nodes : goal.returns-in_err-n-in-Nodes
returns-in_err-n-in-Nodes c =
    let p = err_from_is_err_and c.from_residual.result c.from_residual.ensures.1 in
    rw (p.1, p.2) (node-broken _ c.args.most c.in-Nodes.is c.in_err-n-in-Nodes.ensures)

pub returns-in_ok-n-in-Nodes : goal.returns-in_ok-n-in-Nodes
returns-in_ok-n-in-Nodes c = node-item _ c.in_ok-n-in-Nodes.n c.in-Nodes.is c.in_ok-n-in-Nodes.ensures c.fits.ensures

pub returns-in_err-e-in-Edges : goal.returns-in_err-e-in-Edges
returns-in_err-e-in-Edges c =
    let p = err_from_is_err_and c.from_residual-in_err-e-in-Edges.result c.from_residual-in_err-e-in-Edges.ensures.1 in
    rw (p.1, p.2) (edge-broken _ c.args.most c.in-Edges.is c.in_err-e-in-Edges.ensures)

pub returns-in_ok-e-in-Edges : goal.returns-in_ok-e-in-Edges
returns-in_ok-e-in-Edges c = edge-item _ c.in_ok-e-in-Edges.e c.in-Edges.is c.in_ok-e-in-Edges.ensures c.fits-in-Edges.ensures
