-- `asking::ends_exist` meets its contract.
use Rattle.std.proofs.Common.{◌∙◌, eq-eqb}
use Rattle.references.proofs.Asks.{ends-edge, ends-node}
use Rattle.references.proofs.asking.ends_exist.Goals as goal

pub returns-then-tag-eq-NODE : goal.returns-then-tag-eq-NODE
returns-then-tag-eq-NODE c i e = eq-eqb _ _ c.if-tag-eq-NODE.true ∙ ends-node _ _ _ c.if-tag-eq-NODE.true i e

pub returns-else-tag-eq-NODE : goal.returns-else-tag-eq-NODE
returns-else-tag-eq-NODE c = ends-edge _ _ _ _ _ _ c.if-tag-eq-NODE.false c.number_at.ensures.0 c.number_at-else-tag-eq-NODE.ensures.0 c.both_below.ensures
