-- `is_white` meets its contract.
use Rattle.std.proofs.Common.{arith}
use Rattle.std.proofs.lemmas.Bool.Decides.{nat_tests}
use Rattle.meaning.specs.Basics.{either}
use Rattle.text.specs.Words.{is_white}
use Rattle.lexing.proofs.is_white.Goals as goal

pub returns-in_default : goal.returns-in_default
unfolding is_white either
returns-in_default c = grind (arith, nat_tests)

pub returns-in_default-2 : goal.returns-in_default-2
unfolding is_white either
returns-in_default-2 c = grind (arith, nat_tests)

pub returns-in-32 : goal.returns-in-32
unfolding is_white either
returns-in-32 c = grind (arith, nat_tests)

pub returns-in-32-2 : goal.returns-in-32-2
unfolding is_white either
returns-in-32-2 c = grind (arith, nat_tests)
