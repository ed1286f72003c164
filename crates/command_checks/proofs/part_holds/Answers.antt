-- `part_holds` meets its contract.
use Rattle.std.proofs.Common.{arith}
use Rattle.command_checks.proofs.Parts.{part-main, part-procedure, part-rule}
use Rattle.command_checks.proofs.part_holds.Goals as goal

pub returns-in-16 : goal.returns-in-16
returns-in-16 c = part-rule _ _ _ _ c.in-16.is

pub returns-in-23 : goal.returns-in-23
returns-in-23 c = part-procedure _ _ _ _ _ c.in-23.is c.body_holds.ensures

pub returns-in_default : goal.returns-in_default
returns-in_default c = part-main _ _ _ _ _ (λ h. omega arith) (λ h. omega arith) c.command_holds.ensures
