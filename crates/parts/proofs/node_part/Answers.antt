-- `parts::node_part` meets its contract.
use Rattle.std.proofs.Common.{◌∙◌, ap}
use Rattle.meaning.specs.Image.{rule_node}
use Rattle.parts.specs.Rows.{nth-node}
use Rattle.parts.proofs.node_part.Goals as goal

pub returns : goal.returns
returns c g e h d = ap rule_node c.nth_part.ensures ∙ nth-node _ g e _ h d
