-- `expect` meets its contract.
use Rattle.parsing.proofs.Tokens.{sign-met, sign-other, sign-name, sign-none}
use Rattle.parsing.proofs.expect.Goals as goal

pub returns-in_default : goal.returns-in_default
returns-in_default c = sign-none c.args.text.now c.args.at c.args.s c.in_default.ensures

pub returns-in-Sign : goal.returns-in-Sign
returns-in-Sign c = sign-met c.args.text.now c.args.at (rw c.in-Sign.is at c.in-Some.ensures) c.if-b-s.true

pub returns-in_default-token : goal.returns-in_default-token
returns-in_default-token c = sign-other c.args.text.now c.args.at (rw c.in-Sign.is at c.in-Some.ensures) c.if-b-s.false

pub returns-in_default-token-2 : goal.returns-in_default-token-2
returns-in_default-token-2 c = sign-name c.args.text.now c.args.at c.args.s (rw c.in_default-token.is at c.in-Some.ensures)
