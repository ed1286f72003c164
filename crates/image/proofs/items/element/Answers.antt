-- `items::element` meets its contract, tag by tag.
use Rattle.std.proofs.Common.{arith}
use Rattle.image.proofs.Insides.{pair_inside, operand-inside}
use Rattle.image.proofs.items.element.Goals as goal

pub returns-in-50 : goal.returns-in-50
returns-in-50 c = pair_inside _ _ (omega arith) (omega arith)

pub returns-in_default : goal.returns-in_default
returns-in_default c = operand-inside _ _ (λ h. omega arith) (λ h. omega arith) c.operand_ok.ensures
