-- `fits` meets its contract.
use Rattle.std.proofs.Common.{sym, ◌∙◌}
use Rattle.items.proofs.Fitting.{no-mark, no-atoms, by_number}
use Rattle.items.proofs.fits.Goals as goal

pub returns-then-is_mark : goal.returns-then-is_mark
returns-then-is_mark c =
    let a = c.args in
    rw c.in-Some.is (by_number a.which a.mark a.most c.in-Some.label (sym c.is_mark.ensures ∙ c.if-is_mark.true))

pub returns-else-is_mark : goal.returns-else-is_mark
returns-else-is_mark c =
    let a = c.args in
    rw c.if-is_mark.false (no-mark a.which a.mark a.most a.gathered (sym c.is_mark.ensures ∙ c.if-is_mark.false))

pub returns-in-None : goal.returns-in-None
returns-in-None c = let a = c.args in rw c.in-None.is (no-atoms a.which a.mark a.most c.requires)
