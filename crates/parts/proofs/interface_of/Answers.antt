-- `parts::interface_of` meets its contract.
use Rattle.parts.specs.Rows.{interface-is}
use Rattle.parts.proofs.interface_of.Goals as goal

pub returns : goal.returns
returns c = interface-is _ _ _ c.nth_part.ensures c.number_at.ensures.0
