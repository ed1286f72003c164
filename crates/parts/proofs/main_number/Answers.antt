-- `main_number` meets its contract.
use Rattle.std.proofs.Common.{arith}
use Rattle.parts.specs.Images.{parts-counted}
use Rattle.parts.proofs.main_number.Goals as goal

pub returns : goal.returns
returns c p e = omega (arith, parts-counted _ _ c.count_fields.ensures.by_index p e, c.saturating_sub.ensures)
