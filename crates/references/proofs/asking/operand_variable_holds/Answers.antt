-- `asking::operand_variable_holds` meets its contract.
use Rattle.std.proofs.Common.{arith}
use Rattle.std.proofs.lemmas.Grind.{common_steps}
use Rattle.meaning.specs.Basics.{both, every, absent}
use Rattle.meaning.specs.References.{operand_names}
use Rattle.references.specs.Asked.{int_operand, operand_asked}
use Rattle.references.proofs.asking.operand_variable_holds.Goals as goal

pub returns-in-Left : goal.returns-in-Left
unfolding both every absent operand_names int_operand operand_asked
returns-in-Left c = grind (arith, common_steps)

pub returns-in-Right : goal.returns-in-Right
unfolding both every absent operand_names int_operand operand_asked
returns-in-Right c = grind (arith, common_steps)

pub returns-in-Lacks : goal.returns-in-Lacks
unfolding both every absent operand_names int_operand operand_asked
returns-in-Lacks c = grind (arith, common_steps)
