-- `read_node` meets its contract: each part is read behind the one before it.
use Rattle.std.proofs.lemmas.Result.{err_from_is_err_and}
use Rattle.items.proofs.Single.{node-1, node-2, node-3, node-4, node-5, node-6, node-7, node-read}
use Rattle.items.proofs.read_node.Goals as goal

pub returns-in_err-id : goal.returns-in_err-id
returns-in_err-id c =
    let p = err_from_is_err_and c.from_residual.result c.from_residual.ensures.1 in
    rw (p.1, p.2) (node-1 _ c.in_err-id.ensures)

pub returns-in_err-root : goal.returns-in_err-root
returns-in_err-root c =
    let p = err_from_is_err_and c.from_residual-in_err-root.result c.from_residual-in_err-root.ensures.1 in
    rw (p.1, p.2) (node-2 _ c.in_ok-id.id c.in_ok-id.ensures c.in_err-root.ensures)

pub returns-in_err-comma : goal.returns-in_err-comma
returns-in_err-comma c =
    let p = err_from_is_err_and c.from_residual-in_err-comma.result c.from_residual-in_err-comma.ensures.1 in
    rw (p.1, p.2) (node-3 _ c.in_ok-id.id c.in_ok-id.ensures c.in_ok-root.root c.in_ok-root.ensures c.in_err-comma.ensures)

pub returns-in_err-label : goal.returns-in_err-label
returns-in_err-label c =
    let p = err_from_is_err_and c.from_residual-in_err-label.result c.from_residual-in_err-label.ensures.1 in
    rw (p.1, p.2) (node-4 _ c.in_ok-id.id c.in_ok-id.ensures c.in_ok-root.root c.in_ok-root.ensures c.in_ok-comma.ensures c.in_err-label.ensures)

pub returns-in_err-position : goal.returns-in_err-position
returns-in_err-position c =
    let p = err_from_is_err_and c.from_residual-in_err-position.result c.from_residual-in_err-position.ensures.1 in
    rw (p.1, p.2) (node-5 _ c.in_ok-id.id c.in_ok-id.ensures c.in_ok-root.root c.in_ok-root.ensures c.in_ok-comma.ensures c.in_ok-label.label c.in_ok-label.ensures c.in_err-position.ensures)

pub returns-in_err-close : goal.returns-in_err-close
returns-in_err-close c =
    let p = err_from_is_err_and c.from_residual-in_err-close.result c.from_residual-in_err-close.ensures.1 in
    rw (p.1, p.2) (node-6 _ c.in_ok-id.id c.in_ok-id.ensures c.in_ok-root.root c.in_ok-root.ensures c.in_ok-comma.ensures c.in_ok-label.label c.in_ok-label.ensures c.in_ok-position.ensures c.in_err-close.ensures)

pub returns-in_err-next : goal.returns-in_err-next
returns-in_err-next c =
    let p = err_from_is_err_and c.from_residual-in_err-next.result c.from_residual-in_err-next.ensures.1 in
    rw (p.1, p.2) (node-7 _ c.in_ok-id.id c.in_ok-id.ensures c.in_ok-root.root c.in_ok-root.ensures c.in_ok-comma.ensures c.in_ok-label.label c.in_ok-label.ensures c.in_ok-position.ensures c.in_ok-close.ensures c.in_err-next.ensures)

pub returns : goal.returns
returns c = node-read _ c.in_ok-id.id c.in_ok-id.ensures c.in_ok-root.root c.in_ok-root.ensures c.in_ok-comma.ensures c.in_ok-label.label c.in_ok-label.ensures c.in_ok-position.ensures c.in_ok-close.ensures c.in_ok-next.ensures
