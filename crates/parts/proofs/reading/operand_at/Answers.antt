-- `reading::operand_at` meets its contract.
use Rattle.meaning.specs.Image.{operand}
use Rattle.parts.specs.Reading.{item-nth}
use Rattle.parts.proofs.reading.operand_at.Goals as goal

pub returns : goal.returns
returns c = item-nth operand 2 _ _ _ _ _ c.nth_tag.ensures c.nth_part.ensures c.read_operand.ensures
