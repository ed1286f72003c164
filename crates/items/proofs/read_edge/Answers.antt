-- `read_edge` meets its contract: each part is read behind the one before it.
use Rattle.std.proofs.lemmas.Result.{err_from_is_err_and}
use Rattle.items.proofs.Single.{edge-1, edge-2, edge-3, edge-4, edge-5, edge-6, edge-7, edge-8, edge-read}
use Rattle.items.proofs.read_edge.Goals as goal

pub returns-in_err-id : goal.returns-in_err-id
returns-in_err-id c =
    let p = err_from_is_err_and c.from_residual.result c.from_residual.ensures.1 in
    rw (p.1, p.2) (edge-1 _ c.in_err-id.ensures)

pub returns-in_err-first : goal.returns-in_err-first
returns-in_err-first c =
    let p = err_from_is_err_and c.from_residual-in_err-first.result c.from_residual-in_err-first.ensures.1 in
    rw (p.1, p.2) (edge-2 _ c.in_ok-id.id c.in_ok-id.ensures c.in_err-first.ensures)

pub returns-in_err-source : goal.returns-in_err-source
returns-in_err-source c =
    let p = err_from_is_err_and c.from_residual-in_err-source.result c.from_residual-in_err-source.ensures.1 in
    rw (p.1, p.2) (edge-3 _ c.in_ok-id.id c.in_ok-id.ensures c.in_ok-first.ensures c.in_err-source.ensures)

pub returns-in_err-second : goal.returns-in_err-second
returns-in_err-second c =
    let p = err_from_is_err_and c.from_residual-in_err-second.result c.from_residual-in_err-second.ensures.1 in
    rw (p.1, p.2) (edge-4 _ c.in_ok-id.id c.in_ok-id.ensures c.in_ok-first.ensures c.in_ok-source.source c.in_ok-source.ensures c.in_err-second.ensures)

pub returns-in_err-target : goal.returns-in_err-target
returns-in_err-target c =
    let p = err_from_is_err_and c.from_residual-in_err-target.result c.from_residual-in_err-target.ensures.1 in
    rw (p.1, p.2) (edge-5 _ c.in_ok-id.id c.in_ok-id.ensures c.in_ok-first.ensures c.in_ok-source.source c.in_ok-source.ensures c.in_ok-second.ensures c.in_err-target.ensures)

pub returns-in_err-third : goal.returns-in_err-third
returns-in_err-third c =
    let p = err_from_is_err_and c.from_residual-in_err-third.result c.from_residual-in_err-third.ensures.1 in
    rw (p.1, p.2) (edge-6 _ c.in_ok-id.id c.in_ok-id.ensures c.in_ok-first.ensures c.in_ok-source.source c.in_ok-source.ensures c.in_ok-second.ensures c.in_ok-target.target c.in_ok-target.ensures c.in_err-third.ensures)

pub returns-in_err-label : goal.returns-in_err-label
returns-in_err-label c =
    let p = err_from_is_err_and c.from_residual-in_err-label.result c.from_residual-in_err-label.ensures.1 in
    rw (p.1, p.2) (edge-7 _ c.in_ok-id.id c.in_ok-id.ensures c.in_ok-first.ensures c.in_ok-source.source c.in_ok-source.ensures c.in_ok-second.ensures c.in_ok-target.target c.in_ok-target.ensures c.in_ok-third.ensures c.in_err-label.ensures)

pub returns-in_err-next : goal.returns-in_err-next
returns-in_err-next c =
    let p = err_from_is_err_and c.from_residual-in_err-next.result c.from_residual-in_err-next.ensures.1 in
    rw (p.1, p.2) (edge-8 _ c.in_ok-id.id c.in_ok-id.ensures c.in_ok-first.ensures c.in_ok-source.source c.in_ok-source.ensures c.in_ok-second.ensures c.in_ok-target.target c.in_ok-target.ensures c.in_ok-third.ensures c.in_ok-label.label c.in_ok-label.ensures c.in_err-next.ensures)

pub returns : goal.returns
returns c = edge-read _ c.in_ok-id.id c.in_ok-id.ensures c.in_ok-first.ensures c.in_ok-source.source c.in_ok-source.ensures c.in_ok-second.ensures c.in_ok-target.target c.in_ok-target.ensures c.in_ok-third.ensures c.in_ok-label.label c.in_ok-label.ensures c.in_ok-next.ensures
