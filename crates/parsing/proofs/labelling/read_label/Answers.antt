-- `read_label` meets its contract.
use Rattle.std.proofs.lemmas.Result.{err_from_is_err_and}
use Rattle.parsing.proofs.Parts.{label-read, label-breaks, mark-breaks}
use Rattle.parsing.proofs.labelling.read_label.Goals as goal

pub returns-in_err-list : goal.returns-in_err-list
returns-in_err-list c =
    let p = err_from_is_err_and c.from_residual.result c.from_residual.ensures.1 in
    rw (p.1, p.2) (label-breaks _ c.in_err-list.ensures)

pub returns-in_err-mark : goal.returns-in_err-mark
returns-in_err-mark c =
    let p = err_from_is_err_and c.from_residual-in_err-mark.result c.from_residual-in_err-mark.ensures.1 in
    rw (p.1, p.2) (mark-breaks _ c.in_ok-list.ensures.1 c.in_err-mark.ensures)

pub returns : goal.returns
returns c = let l = c.in_ok-list.ensures in (l.0, label-read _ l.1 c.in_ok-mark.ensures, l.2)
