-- `asking::lists_in` meets its contract: the label's counts are those of any rule with these types.
use Rattle.std.proofs.Common.{refl}
use Rattle.references.specs.Asked.{typed}
use Rattle.references.proofs.asking.lists_in.Goals as goal

pub returns : goal.returns
returns c l e = (c.shape.ensures.1 (typed _) refl l e).listed
