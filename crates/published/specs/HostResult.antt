-- The result of a rule application to a host graph is a host graph: its edges run between its nodes, it is finite, and its
-- labels are host labels. It holds of a rule that has the form and whose references hold. Rests on RuleApplication and OneResult.
use Rattle.std.specs.Prelude.{◌≤◌, ◌≡◌, true}
use Rattle.meaning.specs.Layout.{is_node_mark, is_edge_mark}
use Rattle.published.specs.Graphs.{NodeLabel, EdgeLabel}

-- Labels.

-- a label of a host graph
pub record HostNodeLabel (l : NodeLabel) : Type 0 where
  pub mark : is_node_mark l.mark ≡ true
  pub root : l.root ≤ 1

pub record HostEdgeLabel (l : EdgeLabel) : Type 0 where
  pub mark : is_edge_mark l.mark ≡ true
