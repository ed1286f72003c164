-- `parts::test_count` meets its contract.
use Rattle.meaning.specs.Image.{test}
use Rattle.parts.specs.Reading.{items-count}
use Rattle.parts.proofs.test_count.Goals as goal

pub returns : goal.returns
returns c = items-count test 4 _ _ c.count_fields.ensures.by_index
