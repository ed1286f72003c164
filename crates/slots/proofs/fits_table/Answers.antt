-- `fits_table` meets its contract.
use Rattle.std.proofs.Common.{eq-eqb, ne_eqb}
use Rattle.meaning.specs.Layout.{fits_table}
use Rattle.meaning.specs.Basics.{both}
use Rattle.slots.proofs.fits_table.Goals as goal

pub returns-then-n-w-eq0 : goal.returns-then-n-w-eq0
unfolding fits_table both
returns-then-n-w-eq0 c = rw (eq-eqb _ 0 c.if-n-w-eq0.true)

pub returns-else-n-w-eq0 : goal.returns-else-n-w-eq0
unfolding fits_table both
returns-else-n-w-eq0 c = rw (ne_eqb _ 0 c.if-n-w-eq0.false)
