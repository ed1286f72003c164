-- `parts::node_count` meets its contract.
use Rattle.parts.specs.Rows.{graph-count}
use Rattle.parts.proofs.node_count.Goals as goal

pub returns : goal.returns
returns c = record {
  fact = graph-count _ _ c.count_front.ensures.by_index;
  upper_bound = c.count_front.ensures.upper_bound;
}
