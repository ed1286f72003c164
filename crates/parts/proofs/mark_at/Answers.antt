-- `mark_at` meets its contract.
use Rattle.parts.specs.Rows.{mark-there}
use Rattle.parts.proofs.mark_at.Goals as goal

pub returns-then-i-node_count : goal.returns-then-i-node_count
returns-then-i-node_count c = mark-there _ _ _ _ c.node_count.ensures.fact _ c.if-i-node_count.true c.nth_part.ensures c.byte_at.ensures
