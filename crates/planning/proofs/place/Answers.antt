-- `place` meets its contract.
use Rattle.planning.proofs.Places.{lies-ok}
use Rattle.planning.proofs.place.Goals as goal

pub returns : goal.returns
returns c = rw c.ok.ensures.value (lies-ok _ _ c.in_ok-read_field.field-0 c.in_ok-read_field.ensures)
