-- `pass_coordinate` meets its contract.
use Rattle.std.proofs.lemmas.Result.{err_from_is_err_and}
use Rattle.parsing.proofs.Parts.{coordinate-breaks, coordinate-more, fraction-breaks, coordinate-plain}
use Rattle.parsing.proofs.positions.pass_coordinate.Goals as goal

pub returns-in_err-x : goal.returns-in_err-x
returns-in_err-x c =
    let p = err_from_is_err_and c.from_residual.result c.from_residual.ensures.1 in
    rw (p.1, p.2) (coordinate-breaks _ c.in_err-x.ensures)

pub returns-in_err-fraction : goal.returns-in_err-fraction
returns-in_err-fraction c =
    let p = err_from_is_err_and c.from_residual-in_err-fraction.result c.from_residual-in_err-fraction.ensures.1 in
    rw (p.1, p.2) (fraction-breaks _ c.in_ok-x.ensures.1 c.in-Ok.ensures.0 c.in_err-fraction.ensures)

pub returns-in-Ok : goal.returns-in-Ok
returns-in-Ok c = coordinate-more _ c.in_ok-x.ensures.1 c.in-Ok.ensures.0 c.in_ok-fraction.ensures.1

pub returns : goal.returns
returns c = coordinate-plain _ c.in_ok-x.ensures.1 c.in_default.ensures
