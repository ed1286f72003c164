-- `items::node` meets its contract: each way out is one clause of the definition.
use Rattle.image.proofs.Insides.{node-short, node-unmarked, node-root, node-label}
use Rattle.image.proofs.items.node.Goals as goal
use Rattle.image.proofs.items.node.Goals.{else-p-ge2-via-then-p-ge2+then-marked+else-p-le1, else-p-ge2-via-then-p-ge2+else-marked, else-p-ge2-via-else-p-ge2}

pub returns-then-p-le1 : goal.returns-then-p-le1
returns-then-p-le1 c = node-label _ c.if-p-ge2.true c.marked.ensures c.if-marked.true c.if-p-le1.true

pub returns-else-p-ge2 : goal.returns-else-p-ge2
returns-else-p-ge2 c =
    elim c.else-p-ge2.branch [
      | else-p-ge2-via-then-p-ge2+then-marked+else-p-le1 w ↦ node-root _ w.if-p-ge2.true w.marked.ensures w.if-marked.true w.if-p-le1.false
      | else-p-ge2-via-then-p-ge2+else-marked w ↦ node-unmarked _ w.if-p-ge2.true w.marked.ensures w.if-marked.false
      | else-p-ge2-via-else-p-ge2 w ↦ node-short _ w.if-p-ge2.false
    ]
