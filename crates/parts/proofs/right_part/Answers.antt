-- `parts::right_part` meets its contract.
use Rattle.std.proofs.Common.{◌∙◌, ap}
use Rattle.meaning.specs.Image.{rule_graph}
use Rattle.parts.specs.Rows.{rule_parted}
use Rattle.parts.proofs.right_part.Goals as goal

pub returns : goal.returns
returns c x e = ap rule_graph c.nth_part.ensures ∙ (rule_parted _ x e).right
