-- `parts::preserving` meets its contract.
use Rattle.parts.specs.Rows.{preserving-is}
use Rattle.parts.proofs.preserving.Goals as goal

pub returns : goal.returns
returns c = preserving-is _ _ _ c.nth_part.ensures c.flag.ensures
