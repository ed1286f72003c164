-- `read_condition` meets its contract.
use Rattle.std.proofs.Common.{arith}
use Rattle.parts.specs.Reading.{condition-edge-is, condition_in_is, condition-out-is, condition-relation-is}
use Rattle.parts.proofs.reading.read_condition.Goals as goal

pub returns-in-67 : goal.returns-in-67
returns-in-67 c = condition-relation-is _ _ _ c.in-67.is c.read_relation.ensures

pub returns-in-64 : goal.returns-in-64
returns-in-64 c = condition-edge-is _ _ _ c.number_at.ensures.0 _ c.number_at-in-64.ensures.0 c.in-64.is

pub returns-in-65 : goal.returns-in-65
returns-in-65 c = condition_in_is _ _ _ c.number_at-in-65.ensures.0 _ c.degree_of.ensures.0 c.in-65.is

pub returns-in_default : goal.returns-in_default
returns-in_default c = condition-out-is _ _ _ c.number_at-in_default.ensures.0 _ c.degree_of-in_default.ensures.0 (λ h. omega arith) (λ h. omega arith) (λ h. omega arith)
