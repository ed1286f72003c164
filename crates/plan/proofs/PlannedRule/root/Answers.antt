-- `root` meets its contract: a node's second byte is its root flag.
use Rattle.std.proofs.Common.{sym, arith}
use Rattle.plan.specs.Places.{planned-node, node-there}
use Rattle.plan.proofs.PlannedRule.root.Goals as goal

pub bounds-self-self : goal.bounds-self-self
bounds-self-self c = let a = planned-node c.requires.laid c.args.i (node-there c.requires) in omega (arith, a.long, a.inside)

pub returns : goal.returns
returns c = λ r l. sym (planned-node l c.args.i (node-there c.requires)).root
