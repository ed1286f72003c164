-- `parts::variables_part` meets its contract.
use Rattle.parts.specs.Rows.{variables-are}
use Rattle.parts.proofs.variables_part.Goals as goal

pub returns : goal.returns
returns c = variables-are _ _ c.nth_part.ensures
