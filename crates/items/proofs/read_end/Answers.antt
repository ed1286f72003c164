-- `read_end` meets its contract.
use Rattle.items.proofs.Whole.{end_read, no_end}
use Rattle.items.proofs.read_end.Goals as goal

pub returns-in-None : goal.returns-in-None
returns-in-None c = end_read _ c.args.at c.in-None.ensures

pub returns-in-Some : goal.returns-in-Some
returns-in-Some c = no_end _ c.args.at _ c.in-Some.ensures
