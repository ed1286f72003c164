-- `read_field` meets its contract: each way out is one answer of `field_at`.
use Rattle.std.proofs.Common.{arith}
use Rattle.fields.specs.Laws.{at-end, short-small, short_cut, field-there}
use Rattle.fields.proofs.read_field.Goals as goal

pub returns-then-len-at : goal.returns-then-len-at
returns-then-len-at c = at-end _ _ c.if-len-at.true

pub returns-then-len-at-lt3 : goal.returns-then-len-at-lt3
returns-then-len-at-lt3 c = short-small _ _ c.if-len-at.false c.if-len-at-lt3.true

pub returns-then-len-start : goal.returns-then-len-start
returns-then-len-start c = short_cut _ _ c.number2-n.result c.number2-n.ensures.0 (omega arith) c.if-len-start.true

pub returns : goal.returns
returns c = field-there _ _ c.number2-n.result c.number2-n.ensures.0 (omega arith) c.if-len-start.false
