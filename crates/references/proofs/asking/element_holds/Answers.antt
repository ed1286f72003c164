-- `asking::element_holds` meets its contract.
use Rattle.std.proofs.Common.{arith}
use Rattle.std.proofs.lemmas.Grind.{common_steps}
use Rattle.meaning.specs.Basics.{both, every, absent}
use Rattle.meaning.specs.References.{operand_names, element_names, element_operands, is_plain}
use Rattle.references.specs.Asked.{operand_asked, element_asked}
use Rattle.references.proofs.asking.element_holds.Goals as goal

pub returns-in-Constant : goal.returns-in-Constant
unfolding both every absent operand_names element_names element_operands is_plain operand_asked element_asked
returns-in-Constant c = grind (arith, common_steps)

pub returns-in-Sum : goal.returns-in-Sum
unfolding both every absent operand_names element_names element_operands is_plain operand_asked element_asked
returns-in-Sum c = grind (arith, common_steps)
