-- `reading::read_operand` meets its contract.
use Rattle.parts.specs.Reading.{operand-first, operand-second}
use Rattle.parts.proofs.reading.read_operand.Goals as goal

pub returns-then-tag-eq-CONSTANT : goal.returns-then-tag-eq-CONSTANT
returns-then-tag-eq-CONSTANT c = operand-first _ _ _ c.if-tag-eq-CONSTANT.true c.word_of.ensures.0

pub returns-else-tag-eq-CONSTANT : goal.returns-else-tag-eq-CONSTANT
returns-else-tag-eq-CONSTANT c = operand-second _ _ _ c.if-tag-eq-CONSTANT.false c.number_at.ensures.0
