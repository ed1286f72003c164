-- `read_name` meets its contract.
use Rattle.parsing.proofs.Tokens.{name-met, name-sign, name-none}
use Rattle.parsing.proofs.read_name.Goals as goal

pub returns-in_default : goal.returns-in_default
returns-in_default c = name-none c.args.text.now c.args.at c.in_default.ensures

pub returns-in-Name : goal.returns-in-Name
returns-in-Name c = name-met c.args.text.now c.args.at (rw c.in-Name.is at c.in-Some.ensures)

pub returns-in-Sign : goal.returns-in-Sign
returns-in-Sign c = name-sign c.args.text.now c.args.at (rw c.in-Sign.is at c.in-Some.ensures)
