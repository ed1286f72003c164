-- `length_fits` meets its contract.
use Rattle.parts.specs.Walks.{fits-plain, fits-listed}
use Rattle.parts.proofs.elements.length_fits.Goals as goal

pub returns-then-s-eq0 : goal.returns-then-s-eq0
returns-then-s-eq0 c x l m k e = fits-plain x l _ k m _ e c.if-s-eq0.true

pub returns-else-s-eq0 : goal.returns-else-s-eq0
returns-else-s-eq0 c x l m k e = fits-listed x l _ k m _ e c.if-s-eq0.false
