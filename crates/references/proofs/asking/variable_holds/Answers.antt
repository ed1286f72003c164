-- `asking::variable_holds` meets its contract.
use Rattle.std.proofs.Common.{arith}
use Rattle.std.proofs.lemmas.Grind.{common_steps}
use Rattle.meaning.specs.Basics.{both, every, absent}
use Rattle.meaning.specs.References.{element_names, element_operands, is_plain}
use Rattle.references.specs.Asked.{element_asked}
use Rattle.references.proofs.asking.variable_holds.Goals as goal

pub returns-in-Left : goal.returns-in-Left
unfolding both every absent element_names element_operands is_plain element_asked
returns-in-Left c = grind (arith, common_steps)

pub returns-in-Lacks : goal.returns-in-Lacks
unfolding both every absent element_names element_operands is_plain element_asked
returns-in-Lacks c = grind (arith, common_steps)
