-- `mark` meets its contract: an item's first byte is its mark.
use Rattle.plan.specs.Places.{item-inside, marked}
use Rattle.plan.proofs.PlannedRule.mark.Goals as goal

pub bounds-self-self : goal.bounds-self-self
bounds-self-self c = item-inside c.requires

pub returns : goal.returns
returns c = λ r l. marked l c.args.j
