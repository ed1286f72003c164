-- `pass_coordinates` meets its contract.
use Rattle.std.proofs.lemmas.Result.{err_from_is_err_and}
use Rattle.parsing.proofs.Parts.{across-breaks, comma-breaks, down-breaks, coordinates_read}
use Rattle.parsing.proofs.positions.pass_coordinates.Goals as goal

pub returns-in_err-x : goal.returns-in_err-x
returns-in_err-x c =
    let p = err_from_is_err_and c.from_residual.result c.from_residual.ensures.1 in
    rw (p.1, p.2) (across-breaks _ c.in_err-x.ensures)

pub returns-in_err-comma : goal.returns-in_err-comma
returns-in_err-comma c =
    let p = err_from_is_err_and c.from_residual-in_err-comma.result c.from_residual-in_err-comma.ensures.1 in
    rw (p.1, p.2) (comma-breaks _ c.in_ok-x.ensures c.in_err-comma.ensures)

pub returns-in_err-y : goal.returns-in_err-y
returns-in_err-y c =
    let p = err_from_is_err_and c.from_residual-in_err-y.result c.from_residual-in_err-y.ensures.1 in
    rw (p.1, p.2) (down-breaks _ c.in_ok-x.ensures c.in_ok-comma.ensures.0 c.in_err-y.ensures)

pub returns : goal.returns
returns c = coordinates_read _ c.in_ok-x.ensures c.in_ok-comma.ensures.0 c.in_ok-y.ensures _ c.expect-2.ensures
