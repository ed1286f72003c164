-- `height` meets its contract.
use Rattle.std.proofs.Common.{rules}
use Rattle.meaning.specs.Numbers.{height}
use Rattle.labels.proofs.height.Goals as goal

pub returns : goal.returns
unfolding height
returns c = search rules
