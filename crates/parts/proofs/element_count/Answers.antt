-- `parts::element_count` meets its contract.
use Rattle.meaning.specs.Image.{limits, element, label}
use Rattle.parts.specs.Reading.{items-count}
use Rattle.parts.proofs.element_count.Goals as goal

pub returns : goal.returns
unfolding label
returns c = items-count element limits.elements _ _ c.count_fields.ensures.by_index
