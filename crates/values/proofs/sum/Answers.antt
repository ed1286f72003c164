-- `sum` meets its contract.
use Rattle.std.proofs.Common.{◌∙◌}
use Rattle.values.specs.Laws.{sum-lowered}
use Rattle.values.proofs.sum.Goals as goal

pub returns : goal.returns
returns c = c.lowered.ensures ∙ sum-lowered _ _ _ _ c.height.ensures.0 c.height-2.ensures.0
