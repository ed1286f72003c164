use Rattle.std.proofs.lemmas.Result.{err_from_is_err_and}
use Rattle.meaning.specs.Laws.Tests.{both_yes, both-no}
use Rattle.std.proofs.Common.{sym, ◌∙◌}
use Rattle.items.proofs.Rowing.{no_room, none_yet, row-breaks, row-stops, one_more}
use Rattle.items.proofs.read_items.Goals as goal
use Rattle.items.proofs.read_items.Goals.{then-count-places, else-count-places, then-fits, else-fits}

pub loop-open-init : goal.loop-open-init
loop-open-init c = none_yet _ _ _ c.args.at c.args.places.now

pub returns-in_err-item : goal.returns-in_err-item
returns-in_err-item c =
    let p = err_from_is_err_and c.from_residual.result c.from_residual.ensures.1 in
    rw (p.1, p.2) (row-breaks _ _ _ c.loop-open.invariant c.in-Ok.ensures c.loop-open.places c.in_err-item.ensures)

pub loop-open-preserved : goal.loop-open-preserved
loop-open-preserved c =
    one_more _ _ _ c.loop-open.invariant c.in-Ok.ensures c.in_ok-item.item c.in_ok-item.ensures
    (elim c.if-count-places.branch [
      | then-count-places w ↦ w.places-is
      | else-count-places w ↦ no_room _ _ _ w.if-count-places.false w.places-is
    ])
    (elim c.if-fits.branch [
      | then-fits w ↦ w.fits-is ∙ sym (both_yes _ _ w.if-fits.true)
      | else-fits w ↦ w.fits-is ∙ w.if-fits.false ∙ sym (both-no _ _ w.if-fits.false)
    ])

pub returns : goal.returns
returns c = row-stops _ _ _ c.loop-open.invariant c.in_default.ensures
