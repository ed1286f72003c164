-- `items::edge` meets its contract: each way out is one clause of the definition.
use Rattle.image.proofs.Insides.{edge-short, edge-unmarked, edge-label}
use Rattle.image.proofs.items.edge.Goals as goal
use Rattle.image.proofs.items.edge.Goals.{else-p-ge3-via-then-p-ge3+else-marked, else-p-ge3-via-else-p-ge3}

pub returns-then-marked : goal.returns-then-marked
returns-then-marked c = edge-label _ c.if-p-ge3.true c.marked.ensures c.if-marked.true

pub returns-else-p-ge3 : goal.returns-else-p-ge3
returns-else-p-ge3 c =
    elim c.else-p-ge3.branch [
      | else-p-ge3-via-then-p-ge3+else-marked w ↦ edge-unmarked _ w.if-p-ge3.true w.marked.ensures w.if-marked.false
      | else-p-ge3-via-else-p-ge3 w ↦ edge-short _ w.if-p-ge3.false
    ]
