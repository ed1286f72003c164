-- The published program is-discrete on all of its input: nodes unmarked, none a root, labelled at will. Which node goes decides which
-- labels are left, so that results of del need not be isomorphic; but they are but for the labels of nodes, and del and node do not
-- look at these. So the program can't both fail and have a result. A result has no nodes, so that two are isomorphic after all.
-- Rests on IsDiscrete, Existence and Endings.
use Rattle.std.specs.Prelude.{◌≡◌, [], ◌∷◌, ℕ}
use Rattle.meaning.specs.Tags.{none_mark}
use Rattle.meaning.specs.Image.{RuleGraph}
use Rattle.meaning.specs.declared.Element.TheVariants.{Variable}
use Rattle.published.specs.Graphs.{NodeLabel, Graph, Node, HostGraph, Iso}

-- Graphs but for the labels of their nodes.

abbrev pub bare_label : NodeLabel → NodeLabel
bare_label l = record { mark = l.mark; root = l.root; list = [] }

abbrev pub bare : Graph → Graph
bare G =
    record {
      is_node = G.is_node;
      is_edge = G.is_edge;
      source = G.source;
      target = G.target;
      node_label = λ v. bare_label (G.node_label v);
      edge_label = G.edge_label;
    }

-- nodes are unmarked, and none is a root
pub record Plain (G : Graph) : Type 0 where
  pub marks : (v : ℕ) → Node G v → (G.node_label v).mark ≡ 0
  pub roots : (v : ℕ) → Node G v → (G.node_label v).root ≡ 0

-- such host graphs that are isomorphic but for the labels of their nodes
pub record SameShape (G H : Graph) : Type 0 where
  pub this : HostGraph G
  pub that : HostGraph H
  pub plain : Plain G
  pub plain' : Plain H
  pub iso : Iso (bare G) (bare H)

-- Both rules have one unmarked node with a list variable on their left side.

abbrev pub one : RuleGraph
one = record { nodes = record { mark = none_mark; root = 0; label = Variable 0 ∷ [] } ∷ []; edges = [] }
