-- `applying::apply` meets its contract.
use Rattle.std.proofs.lemmas.Result.{err_from_is_err_and}
use Rattle.applying.proofs.Answers.{stops, unhindered-here, does}
use Rattle.applying.proofs.apply.Goals as goal

pub returns-in_err-hindrance : goal.returns-in_err-hindrance
returns-in_err-hindrance c =
    let p = err_from_is_err_and c.from_residual.result c.from_residual.ensures.1 in
    rw (p.1, p.2) (stops c.requires.running c.requires.at_match _ (c.in_err-hindrance.ensures c.requires.at_match))

pub change-requires : goal.change-requires
change-requires c = unhindered-here c.requires.running c.requires.at_match (c.in_ok-hindrance.ensures c.requires.at_match)

pub returns : goal.returns
returns c = does (unhindered-here c.requires.running c.requires.at_match (c.in_ok-hindrance.ensures c.requires.at_match)) c.change.ensures
