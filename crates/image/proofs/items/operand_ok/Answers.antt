-- `items::operand_ok` meets its contract, tag by tag.
use Rattle.std.proofs.Common.{rules, sym}
use Rattle.fields.specs.Image.{operand-constant, operand-variable, operand-other}
use Rattle.image.proofs.Insides.{failed}
use Rattle.image.proofs.items.operand_ok.Goals as goal

pub returns-in-48 : goal.returns-in-48
returns-in-48 c = sym (operand-constant _ _ c.in-48.is)

pub returns-in-49 : goal.returns-in-49
returns-in-49 c = sym (operand-variable _ _ c.in-49.is)

pub returns-in_default : goal.returns-in_default
returns-in_default c = failed _ (operand-other _ _ (search rules) (search rules))
