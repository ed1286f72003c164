-- `asking::constant_holds` meets its contract.
use Rattle.std.proofs.Common.{arith}
use Rattle.std.proofs.lemmas.Grind.{common_steps}
use Rattle.meaning.specs.Basics.{both, every, absent}
use Rattle.meaning.specs.References.{operand_names}
use Rattle.references.specs.Asked.{int_operand, operand_asked}
use Rattle.references.proofs.asking.constant_holds.Goals as goal

pub returns : goal.returns
unfolding both every absent operand_names int_operand operand_asked
returns c = grind (arith, common_steps)
