-- `edge_part` meets its contract.
use Rattle.parts.specs.Rows.{edge-far, edge-there}
use Rattle.parts.proofs.edge_part.Goals as goal

pub returns-then-i-p : goal.returns-then-i-p
returns-then-i-p c = edge-there _ _ _ _ c.node_count.ensures.fact c.nth_part.ensures

pub returns-else-i-p : goal.returns-else-i-p
returns-else-i-p c = edge-far _ _ _ c.if-i-p.false
