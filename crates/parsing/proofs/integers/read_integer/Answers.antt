-- `read_integer` meets its contract.
use Rattle.std.proofs.lemmas.Result.{err_from_is_err_and}
use Rattle.parsing.proofs.Atoms.{held-atom}
use Rattle.parsing.proofs.Parts.{integer-minus, minus-breaks, integer-plain, plain-breaks}
use Rattle.parsing.proofs.integers.read_integer.Goals as goal

pub returns-in_err-d : goal.returns-in_err-d
returns-in_err-d c =
    let p = err_from_is_err_and c.from_residual.result c.from_residual.ensures.1 in
    rw (p.1, p.2) (minus-breaks _ c.in-Ok.ensures.0 c.in_err-d.ensures)

pub returns-in-Ok : goal.returns-in-Ok
returns-in-Ok c =
    let d = c.in_ok-d.ensures in (_, integer-minus _ c.in-Ok.ensures.0 d.1, held-atom _ _ d.0 c.held.ensures d.2)

pub returns-in_err-d-2 : goal.returns-in_err-d-2
returns-in_err-d-2 c =
    let p = err_from_is_err_and c.from_residual-in_err-d-2.result c.from_residual-in_err-d-2.ensures.1 in
    rw (p.1, p.2) (plain-breaks _ c.in_default.ensures c.in_err-d-2.ensures)

pub returns : goal.returns
returns c =
    let d = c.in_ok-d-2.ensures in (_, integer-plain _ c.in_default.ensures d.1, held-atom _ _ d.0 c.held-2.ensures d.2)
