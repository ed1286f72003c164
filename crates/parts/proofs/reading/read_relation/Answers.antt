-- `reading::read_relation` meets its contract.
use Rattle.parts.specs.Reading.{equal_is, less-is}
use Rattle.parts.proofs.reading.read_relation.Goals as goal

pub returns-then-byte_at-eq-EQUAL : goal.returns-then-byte_at-eq-EQUAL
returns-then-byte_at-eq-EQUAL c = equal_is _ _ _ _ _ c.byte_at.ensures c.behind-operands.ensures c.operand_at-a.ensures c.operand_at-b.ensures c.if-byte_at-eq-EQUAL.true

pub returns-else-byte_at-eq-EQUAL : goal.returns-else-byte_at-eq-EQUAL
returns-else-byte_at-eq-EQUAL c = less-is _ _ _ _ _ c.byte_at.ensures c.behind-operands.ensures c.operand_at-a.ensures c.operand_at-b.ensures c.if-byte_at-eq-EQUAL.false
