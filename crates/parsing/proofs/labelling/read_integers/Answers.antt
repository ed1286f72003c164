use Rattle.std.specs.Prelude.{Some}
use Rattle.std.proofs.lemmas.Result.{err_from_is_err_and}
use Rattle.parsing.proofs.Atoms.{gathers-none}
use Rattle.parsing.proofs.Parts.{first-breaks}
use Rattle.parsing.proofs.Lists.{gathering_begins, gathering_more, list-ends, list-broken}
use Rattle.parsing.proofs.labelling.read_integers.Goals as goal

pub returns-in_err-first : goal.returns-in_err-first
returns-in_err-first c =
    let p = err_from_is_err_and c.from_residual.result c.from_residual.ensures.1 in
    rw (p.1, p.2) (first-breaks _ c.in_err-first.ensures)

pub loop-colon-init : goal.loop-colon-init
loop-colon-init c = gathering_begins _ _ _

pub returns-in_err-x : goal.returns-in_err-x
returns-in_err-x c =
    let p = err_from_is_err_and c.from_residual-in_err-x.result c.from_residual-in_err-x.ensures.1 in
    rw (p.1, p.2) (list-broken c.in_ok-first.first c.in_ok-first.ensures c.loop-colon.invariant c.in-Ok.ensures c.in_err-x.ensures)

pub loop-colon-preserved : goal.loop-colon-preserved
loop-colon-preserved c =
    gathering_more c.loop-colon.invariant c.in_ok-x.x c.in-Ok.ensures c.in_ok-x.ensures c.with_integer-label-in-Ok.ensures

pub returns : goal.returns
returns c =
    list-ends c.in_ok-first.first c.in_ok-first.ensures c.loop-colon.invariant (Some c.none.result) (gathers-none c.none.ensures)
    c.with_integer-label.ensures c.in_default.ensures
