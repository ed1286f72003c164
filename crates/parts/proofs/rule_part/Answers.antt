-- `parts::rule_part` meets its contract.
use Rattle.std.proofs.Common.{◌∙◌, ap}
use Rattle.meaning.specs.Image.{rule}
use Rattle.parts.specs.Images.{nth-rule}
use Rattle.parts.proofs.rule_part.Goals as goal

pub returns : goal.returns
returns c p e h d = ap rule c.nth_part.ensures ∙ nth-rule _ p e _ h d
