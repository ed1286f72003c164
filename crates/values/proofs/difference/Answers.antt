-- `difference` meets its contract.
use Rattle.std.proofs.Common.{◌∙◌}
use Rattle.values.specs.Laws.{difference-lowered}
use Rattle.values.proofs.difference.Goals as goal

pub returns : goal.returns
returns c = c.lowered.ensures ∙ difference-lowered _ _ _ _ c.height.ensures.0 c.height-2.ensures.0
