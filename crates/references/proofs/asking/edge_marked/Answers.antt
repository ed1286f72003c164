-- `asking::edge_marked` meets its contract.
use Rattle.std.proofs.Common.{◌∙◌, eq-eqb}
use Rattle.references.proofs.Asks.{marks-edge, marks-node}
use Rattle.references.proofs.asking.edge_marked.Goals as goal

pub returns-then-tag-eq-NODE : goal.returns-then-tag-eq-NODE
returns-then-tag-eq-NODE c i e = eq-eqb _ _ c.if-tag-eq-NODE.true ∙ marks-node _ _ c.if-tag-eq-NODE.true i e

pub returns-else-tag-eq-NODE : goal.returns-else-tag-eq-NODE
returns-else-tag-eq-NODE c = marks-edge _ _ _ c.if-tag-eq-NODE.false c.byte_at.ensures
