-- What a right node or a right edge is made of in lent bytes, and what each part of an application is handed.
-- Rests on ledger's Running and Changes, on values' Values and on the meaning's Applying.
use Rattle.std.specs.Prelude.{◌≡◌, Bool, true, false, List, [], ◌++◌, ℕ, ◌+◌, ◌/◌, ◌<◌, ◌≤◌, length, get_or, take, eqb}
use Rattle.std.proofs.Math.Option.{some}
use Rattle.meaning.specs.Basics.{choose}
use Rattle.meaning.specs.Layout.{Node, Edge, Host, free, live_at, node_length, record_length, read_nodes, read_edges, most_atoms}
use Rattle.meaning.specs.Image.{RuleNode, RuleEdge, Rule, rule_node, rule_edge, rule_graph, limits, most_items}
use Rattle.meaning.specs.Tags.{any_mark}
use Rattle.meaning.specs.References.{names}
use Rattle.meaning.specs.Matching.{node_in, node_at, left_nodes, node_slot}
use Rattle.meaning.specs.Assigned.{assigned}
use Rattle.meaning.specs.Applying.{label_value, root_taken, Right, right_side, free_slots, add_nodes, between}
use Rattle.laws.specs.Hosts.{LegalNode, LegalEdge}
use Rattle.laws.specs.Values.{LegalRight}
use Rattle.meaning.specs.declared.Layout.{Layout}
use Rattle.parts.specs.Series.{For}
use Rattle.values.specs.Values.{values_of, Stored, Agree}
use Rattle.ledger.specs.Running.{ledger_of}
use Rattle.ledger.specs.Changes.{Went, Below}

-- what stands for an item that is not there

abbrev pub blank_rule : RuleNode
blank_rule = record { mark = 0; root = 0; label = [] }

abbrev pub blank_rule_edge : RuleEdge
blank_rule_edge = record { mark = 0; source = 0; target = 0; label = [] }

abbrev pub blank_node : Node
blank_node = record { mark = 0; root = 0; label = [] }

abbrev pub blank_edge : Edge
blank_edge = record { mark = 0; source = 0; target = 0; label = [] }

-- Root flags.

-- what decides whether interface node i, whose right node is p, keeps the host's
abbrev pub KeepsRoot : Bool → List ℕ → ℕ → List ℕ → Bool → Type 0
KeepsRoot preserving left i p keeps =
    For (rule_graph left)
    (λ g. i < length g.nodes → (d : RuleNode) (host : ℕ)
    → choose keeps host (get_or p 1 0) ≡ root_taken preserving (get_or g.nodes i d).root (get_or p 1 0) host)

-- the bytes are the rule's left graph, the mode is the rule's, and the first k nodes are the interface
pub record OnLeft (preserving : Bool) (left : List ℕ) (k : ℕ) (r : Rule) : Type 0 where
  pub is : rule_graph left ≡ some r.left
  pub mode : preserving ≡ r.preserving
  pub inside : k ≤ left_nodes r

module _ (L : Layout) where
  -- One right node, one right edge.

  -- the bytes are a right node, and the node is what it comes to under the values in the arrays, but for its mark and root flag
  pub record NodeMade (p lens atoms : List ℕ) : Type 0 where
    pub stored : Stored lens atoms
    pub few : L.atoms ≤ most_atoms
    pub rule : RuleNode
    pub is : rule_node p ≡ some rule
    pub node : Node
    pub label : label_value L.atoms (values_of lens atoms) rule.label ≡ some node.label
    pub legal : LegalNode L node

  -- the node in slot x takes its values: any keeps the mark, and it keeps the root flag or not
  pub record Takes (nodes p : List ℕ) (keeps : Bool) (lens atoms : List ℕ) (x : ℕ) : Type 0 where
    pub made : NodeMade p lens atoms
    pub alive : live_at (read_nodes L nodes) x ≡ true
    pub mark : made.node.mark ≡ choose (eqb made.rule.mark any_mark) (node_in (get_or (read_nodes L nodes) x free)).mark made.rule.mark
    pub root : made.node.root ≡ choose keeps (node_in (get_or (read_nodes L nodes) x free)).root made.rule.root

  -- a new node has them
  pub record Comes (p lens atoms : List ℕ) : Type 0 where
    pub made : NodeMade p lens atoms
    pub mark : made.node.mark ≡ made.rule.mark
    pub root : made.node.root ≡ made.rule.root

  -- the bytes are a right edge, and the edge is what it comes to; its ends are still numbers of right nodes, whose slots
  -- are the places
  pub record Joins (p lens atoms places : List ℕ) : Type 0 where
    pub stored : Stored lens atoms
    pub few : L.atoms ≤ most_atoms
    pub room : length places ≡ most_items
    pub rule : RuleEdge
    pub is : rule_edge p ≡ some rule
    pub edge : Edge
    pub label : label_value L.atoms (values_of lens atoms) rule.label ≡ some edge.label
    pub mark : edge.mark ≡ rule.mark
    pub source : edge.source ≡ rule.source
    pub target : edge.target ≡ rule.target
    pub inside : (edge.source < most_items) × (edge.target < most_items)
    pub legal : LegalEdge L (between places edge)

  -- The whole right side.

  -- the bytes are a right graph whose first k nodes are the interface, and `right` is what it comes to
  pub record Made (bs lens atoms : List ℕ) (k : ℕ) : Type 0 where
    pub stored : Stored lens atoms
    pub few : L.atoms ≤ most_atoms
    pub host : Host
    pub tree : Rule
    pub slots : List ℕ
    pub right : Right
    pub is : rule_graph bs ≡ some tree.right
    pub values : right_side L.atoms host tree slots ≡ some right
    pub agree : Agree (values_of lens atoms) (assigned host tree slots) (names tree.right)
    pub legal : LegalRight L right
    pub nodes_long : length right.nodes ≡ length tree.right.nodes
    pub edges_long : length right.edges ≡ length tree.right.edges
    pub few_nodes : length tree.right.nodes ≤ limits.nodes
    pub interface : k ≡ tree.interface
    pub inside : k ≤ length tree.right.nodes
    pub marked : (j : ℕ) → k ≤ j → j < length tree.right.nodes → eqb (get_or tree.right.nodes j blank_rule).mark any_mark ≡ false

  -- left node i, in slot x, is to change
  pub record Changes (nodes : List ℕ) (preserving : Bool) (left bs lens atoms : List ℕ) (k i x : ℕ) : Type 0 where
    pub made : Made bs lens atoms k
    pub on : OnLeft preserving left k made.tree
    pub alive : i < k → live_at (read_nodes L nodes) x ≡ true
    pub same : i < k → node_at made.host (node_slot made.slots i) ≡ node_in (get_or (read_nodes L nodes) x free)

  -- the n left nodes, in the slots, are to change
  pub record Alters (nodes journal : List ℕ) (preserving : Bool) (left bs lens atoms at : List ℕ) (used k n : ℕ) : Type 0 where
    pub made : Made bs lens atoms k
    pub on : OnLeft preserving left k made.tree
    pub room : length at ≡ most_items
    pub few : n ≤ most_items
    pub records : used + n ≤ length journal / record_length L
    pub inside : k ≤ n
    pub host : made.host.nodes ≡ read_nodes L nodes
    pub slots : (i : ℕ) → i < n → node_slot made.slots i ≡ get_or at i 0
    pub below : Below (length nodes / node_length L) at 0 n
    pub alive : (i : ℕ) → i < n → live_at (read_nodes L nodes) (get_or at i 0) ≡ true
    pub apart : (i j : ℕ) → i < j → j < n → get_or at i 0 ≡ get_or at j 0 → ⊥

  -- `new` right nodes are to come; the slots of those of the interface are known
  pub record Grows (nodes journal bs lens atoms at : List ℕ) (used k new : ℕ) : Type 0 where
    pub made : Made bs lens atoms k
    pub room : length at ≡ most_items
    pub counted : k + new ≡ length made.tree.right.nodes
    pub free : new ≤ free_slots (read_nodes L nodes)
    pub records : used + new ≤ length journal / record_length L

  -- they have come, and the places are the slots of all right nodes
  pub record Grew (ns : List Node) (nodes edges journal at : List ℕ) (used k new : ℕ) (places nodes' journal' : List ℕ) : Type 0 where
    pub went : Went L (add_nodes ns (ledger_of L nodes edges journal used)).ledger nodes edges journal nodes' edges journal' (used + new)
    pub lie : take (k + new) places ≡ take k at ++ (add_nodes ns (ledger_of L nodes edges journal used)).slots
    pub room : length places ≡ most_items

  -- `count` right edges are to come, between the places
  pub record Edges (edges journal bs lens atoms places : List ℕ) (used count : ℕ) : Type 0 where
    pub interface : ℕ
    pub made : Made bs lens atoms interface
    pub room : length places ≡ most_items
    pub counted : count ≡ length made.tree.right.edges
    pub ends : (i : ℕ) → i < count → LegalEdge L (between (take (length made.tree.right.nodes) places) (get_or made.right.edges i blank_edge))
    pub free : count ≤ free_slots (read_edges L edges)
    pub records : used + count ≤ length journal / record_length L
