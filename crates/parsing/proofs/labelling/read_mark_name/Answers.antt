-- `read_mark_name` meets its contract.
use Rattle.std.proofs.lemmas.Result.{err_from_is_err_and}
use Rattle.parsing.proofs.Marks.{mark-met, mark-other, mark-unnamed}
use Rattle.parsing.proofs.labelling.read_mark_name.Goals as goal

pub returns-in_err-next : goal.returns-in_err-next
returns-in_err-next c =
    let p = err_from_is_err_and c.from_residual.result c.from_residual.ensures.1 in
    rw (p.1, p.2) (mark-unnamed c.args.text.now c.args.at c.in_err-next.ensures)

pub returns-in-Some : goal.returns-in-Some
returns-in-Some c = mark-met c.args.text.now c.args.at c.in_ok-next.ensures c.in-Some.ensures

pub returns-in-None : goal.returns-in-None
returns-in-None c = mark-other c.args.text.now c.args.at c.in_ok-next.ensures c.in-None.ensures
