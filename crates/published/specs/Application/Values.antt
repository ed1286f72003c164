-- The right side's values are instances of its labels: where ours has a sum or difference, it is that of the integers.
-- Rests on RuleApplication and meaning's Applying.
use Rattle.std.specs.Prelude.{ℕ, ◌≡◌}
use mathlib.Core.List.{List, []}
use Rattle.meaning.specs.Layout.{Node, Edge, Host}
use Rattle.meaning.specs.Image.{RuleEdge, Rule}
use Rattle.meaning.specs.Matching.{Assignment}
use Rattle.laws.specs.Layout.{Words}
use Rattle.published.specs.Graphs.{NodeLabel, EdgeLabel}
use Rattle.published.specs.RuleApplication.{EdgeInstance}

-- Nodes and edges.

abbrev pub node_label_of : Node → NodeLabel
node_label_of n = record { mark = n.mark; root = n.root; list = n.label }

abbrev pub edge_label_of : Edge → EdgeLabel
edge_label_of e = record { mark = e.mark; list = e.label }

abbrev pub no_node : Node
no_node = record { mark = 0; root = 0; label = [] }

abbrev pub no_edge : Edge
no_edge = record { mark = 0; source = 0; target = 0; label = [] }

module _ (most : ℕ) (r : Rule) (α : Assignment) (words : (v : ℕ) → Words (α v)) (h : Host) (p : List ℕ) where
  -- the values of a right edge; its ends are still right nodes
  pub record EdgeValue (e : RuleEdge) (a : Edge) : Type 0 where
    pub label : EdgeInstance α e (edge_label_of a)
    pub source : a.source ≡ e.source
    pub target : a.target ≡ e.target
