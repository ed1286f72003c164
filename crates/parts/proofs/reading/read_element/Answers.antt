-- `read_element` meets its contract.
use Rattle.std.proofs.Common.{arith}
use Rattle.parts.specs.Reading.{element-constant-is, element-difference-is, element-sum-is, element-variable-is}
use Rattle.parts.proofs.reading.read_element.Goals as goal

pub returns-in-48 : goal.returns-in-48
returns-in-48 c = element-constant-is _ _ _ c.in-48.is c.word_of.ensures.0

pub returns-in-49 : goal.returns-in-49
returns-in-49 c = element-variable-is _ _ _ c.in-49.is c.number_at.ensures.0

pub returns-in-50 : goal.returns-in-50
returns-in-50 c = element-sum-is _ _ _ c.operand_at.ensures c.operand_at-in-50.ensures _ c.in-50.is

pub returns-in_default : goal.returns-in_default
returns-in_default c = element-difference-is _ _ _ c.operand_at-in_default.ensures c.operand_at-in_default-2.ensures _ (λ h. omega arith) (λ h. omega arith) (λ h. omega arith)
