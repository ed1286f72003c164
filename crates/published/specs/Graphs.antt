-- Host graphs as document 000 has them (Definition 2.1), the graph that a host's slots stand for, and isomorphism.
-- Rests on meaning's Layout and Matching.
use Rattle.std.specs.Prelude.{◌≡◌, Bool, true, List, ℕ, ◌<◌, ◌≤◌}
use Rattle.meaning.specs.Layout.{Host, live_at, is_node_mark, is_edge_mark}
use Rattle.meaning.specs.Matching.{node_at, edge_at}

-- Labels. A list of atoms with a mark, and for a node whether it is a root (1) or not (0). Marks are numbered as in document
-- 01: 0 none, 1 red, 2 green, 3 blue, 4 grey (nodes only), 5 dashed (edges only). An atom names an integer of
-- any size (Integers); one of 32 bits is named by its word, the natural number below 2^32 that has the same 32 bits.

pub record NodeLabel : Type 0 where
  pub mark : ℕ
  pub root : ℕ
  pub list : List ℕ

pub record EdgeLabel : Type 0 where
  pub mark : ℕ
  pub list : List ℕ

-- Definition 2.1: nodes, edges, the source, target and label of each edge, the label of each node. Nodes and edges are named
-- by natural numbers, and only names tell them apart. What stands at a name that is no node or edge means nothing.
pub record Graph : Type 0 where
  pub is_node : ℕ → Bool
  pub is_edge : ℕ → Bool
  pub source : ℕ → ℕ
  pub target : ℕ → ℕ
  pub node_label : ℕ → NodeLabel
  pub edge_label : ℕ → EdgeLabel

abbrev pub Node : Graph → ℕ → Type 0
Node G v = G.is_node v ≡ true

abbrev pub Edge : Graph → ℕ → Type 0
Edge G e = G.is_edge e ≡ true

-- what makes it a host graph: source and target are functions from edges to nodes, nodes and edges are finitely many, and
-- the labels are host labels
pub record HostGraph (G : Graph) : Type 0 where
  pub sources : (e : ℕ) → Edge G e → Node G (G.source e)
  pub targets : (e : ℕ) → Edge G e → Node G (G.target e)
  pub most : ℕ
  pub nodes_finite : (v : ℕ) → Node G v → v < most
  pub edges_finite : (e : ℕ) → Edge G e → e < most
  pub node_marks : (v : ℕ) → Node G v → is_node_mark (G.node_label v).mark ≡ true
  pub edge_marks : (e : ℕ) → Edge G e → is_edge_mark (G.edge_label e).mark ≡ true
  pub roots : (v : ℕ) → Node G v → (G.node_label v).root ≤ 1

-- The graph of a host: a live node slot is a node, a live edge slot an edge, and each is named by its slot's number. The
-- reading forgets the free slots and how many there are. What is left of a slot's number is that it is a name: up to
-- isomorphism the order of the slots is forgotten too.
abbrev pub graph_of : Host → Graph
graph_of h =
    record {
      is_node = live_at h.nodes;
      is_edge = live_at h.edges;
      source = λ x. (edge_at h x).source;
      target = λ x. (edge_at h x).target;
      node_label = λ x. record { mark = (node_at h x).mark; root = (node_at h x).root; list = (node_at h x).label };
      edge_label = λ x. record { mark = (edge_at h x).mark; list = (edge_at h x).label };
    }

-- Isomorphism: nodes go to nodes and edges to edges, one to one, and ends and labels are kept.
pub record Iso (G H : Graph) : Type 0 where
  pub node : ℕ → ℕ
  pub edge : ℕ → ℕ
  pub node_back : ℕ → ℕ
  pub edge_back : ℕ → ℕ
  pub nodes : (v : ℕ) → Node G v → Node H (node v)
  pub edges : (e : ℕ) → Edge G e → Edge H (edge e)
  pub nodes_back : (v : ℕ) → Node H v → Node G (node_back v)
  pub edges_back : (e : ℕ) → Edge H e → Edge G (edge_back e)
  pub node_there : (v : ℕ) → Node G v → node_back (node v) ≡ v
  pub edge_there : (e : ℕ) → Edge G e → edge_back (edge e) ≡ e
  pub node_here : (v : ℕ) → Node H v → node (node_back v) ≡ v
  pub edge_here : (e : ℕ) → Edge H e → edge (edge_back e) ≡ e
  pub sources : (e : ℕ) → Edge G e → H.source (edge e) ≡ node (G.source e)
  pub targets : (e : ℕ) → Edge G e → H.target (edge e) ≡ node (G.target e)
  pub node_labels : (v : ℕ) → Node G v → H.node_label (node v) ≡ G.node_label v
  pub edge_labels : (e : ℕ) → Edge G e → H.edge_label (edge e) ≡ G.edge_label e
