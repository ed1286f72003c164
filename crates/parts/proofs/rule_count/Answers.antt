-- `parts::rule_count` meets its contract.
use Rattle.parts.specs.Images.{rule-count-is}
use Rattle.parts.proofs.rule_count.Goals as goal

pub returns : goal.returns
returns c = rule-count-is _ _ c.count_front.ensures.by_index
