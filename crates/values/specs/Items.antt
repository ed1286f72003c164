-- Right nodes and edges by number: their marks, roots, ends and labels, and that a label's value in hand is theirs.
-- Rests on Laws and Right.
use Rattle.std.specs.Prelude.{◌≡◌, refl, List, ℕ, ◌+◌, ◌<◌, eqb, ltb, length, get_or, Option as Maybe}
use Rattle.std.proofs.Common.{sym, ◌∙◌, arith}
use Rattle.std.proofs.Math.Option.{some}
use Rattle.meaning.specs.Basics.{choose, each}
use Rattle.meaning.specs.Layout.{Node, Edge, Host}
use Rattle.meaning.specs.Image.{RuleNode, RuleEdge, Rule, rule_node, rule_edge}
use Rattle.meaning.specs.Tags.{any_mark, edge_tag, node_tag}
use Rattle.meaning.specs.References.{names}
use Rattle.meaning.specs.Matching.{node_at, left_node, node_slot, Assignment}
use Rattle.meaning.specs.Assigned.{assigned}
use Rattle.meaning.specs.Applying.{label_value, root_taken, right_node, right_nodes, right_edge, Right, right_side}
use Rattle.meaning.specs.Laws.Tests.{some_inj, bind_some}
use Rattle.meaning.specs.Laws.Applying.{each_at, nodes-at}
use Rattle.parts.specs.Series.{For}
use Rattle.parts.specs.Rows.{node, edge, graph_item, item_label}
use Rattle.values.specs.Values.{Agree, value_in}
use Rattle.values.specs.Right.{label_same, node-names, edge-names, node-item, edge-item}
use Rattle.labels.specs.declared.Label.{Label}

-- One of many.

-- the value of right node j, and of a right edge
pub record NodeValue (most : ℕ) (r : Rule) (α : Assignment) (h : Host) (p : List ℕ) (j : ℕ) (n : RuleNode) (a : Node) : Type 0 where
  pub mark : a.mark ≡ choose (eqb n.mark any_mark) (node_at h (node_slot p j)).mark n.mark
  pub root : a.root ≡ choose (ltb j r.interface) (root_taken r.preserving (left_node r j).root n.root (node_at h (node_slot p j)).root) n.root
  pub label : label_value most α n.label ≡ some a.label

pub record EdgeValue (most : ℕ) (α : Assignment) (e : RuleEdge) (a : Edge) : Type 0 where
  pub mark : a.mark ≡ e.mark
  pub source : a.source ≡ e.source
  pub target : a.target ≡ e.target
  pub label : label_value most α e.label ≡ some a.label

module _ (most : ℕ) (r : Rule) (α : Assignment) where
  node-value : (h : Host) (p : List ℕ) (j : ℕ) (n : RuleNode) (a : Node) → right_node most r α h p j n ≡ some a → NodeValue most r α h p j n a
  unfolding right_node
  node-value h p j n a q =
      let t = bind_some (label_value most α n.label) _ a q in
      rw (some_inj a _ (sym t.2)) (record { mark = refl; root = refl; label = t.1 })

  edge-value : (e : RuleEdge) (a : Edge) → right_edge most α e ≡ some a → EdgeValue most α e a
  unfolding right_edge
  edge-value e a q =
      let t = bind_some (label_value most α e.label) _ a q in
      rw (some_inj a _ (sym t.2)) (record { mark = refl; source = refl; target = refl; label = t.1 })

-- The right side.

module _ (most : ℕ) (h : Host) (r : Rule) (p : List ℕ) (right : Right) (q : right_side most h r p ≡ some right) where
  sides : (right_nodes most r (assigned h r p) h p 0 r.right.nodes ≡ some right.nodes) × (each (right_edge most (assigned h r p)) r.right.edges ≡ some right.edges)
  unfolding right_side
  sides =
      let t = bind_some (right_nodes most r (assigned h r p) h p 0 r.right.nodes) _ right q in
      let u = bind_some (each (right_edge most (assigned h r p)) r.right.edges) _ right t.2 in
      rw (some_inj right (record { nodes = t.0; edges = u.0 }) (sym u.2)) (t.1, u.1)

  pub node_at_lem : (j : ℕ) → j < length r.right.nodes → (d : RuleNode) (b : Node)
      → NodeValue most r (assigned h r p) h p j (get_or r.right.nodes j d) (get_or right.nodes j b)
  node_at_lem j k d b =
      let z : 0 + j ≡ j = omega arith in
      node-value most r (assigned h r p) h p j _ _ (rw z at (nodes-at most r (assigned h r p) h p 0 r.right.nodes right.nodes sides.0 j k d b))

  pub edge_at : (j : ℕ) → j < length r.right.edges → (d : RuleEdge) (b : Edge)
      → EdgeValue most (assigned h r p) (get_or r.right.edges j d) (get_or right.edges j b)
  edge_at j k d b =
      edge-value most r (assigned h r p) _ _ (each_at (right_edge most (assigned h r p)) r.right.edges right.edges sides.1 j k d b)

  -- a value in hand, read from the item's bytes under values that agree with the match's
  module _ (α : Assignment) (agree : Agree α (assigned h r p) (names r.right)) (bs : List ℕ) (v : Maybe Label) where
    pub node_in_hand_lem : For (graph_item node_tag bs) (λ i. value_in v ≡ label_value most α (item_label i)) → (j : ℕ) → j < length r.right.nodes
        → (d : RuleNode) (b : Node) → rule_node bs ≡ some (get_or r.right.nodes j d) → value_in v ≡ some (get_or right.nodes j b).label
    unfolding item_label
    node_in_hand_lem f j k d b e =
        f (node (get_or r.right.nodes j d)) (node-item bs _ e)
        ∙ label_same α (assigned h r p) most _ (node-names (λ x. α x ≡ assigned h r p x) r.right agree j k d)
        ∙ (node_at_lem j k d b).label

    pub edge_in_hand_lem : For (graph_item edge_tag bs) (λ i. value_in v ≡ label_value most α (item_label i)) → (j : ℕ) → j < length r.right.edges
        → (d : RuleEdge) (b : Edge) → rule_edge bs ≡ some (get_or r.right.edges j d) → value_in v ≡ some (get_or right.edges j b).label
    unfolding item_label
    edge_in_hand_lem f j k d b e =
        f (edge (get_or r.right.edges j d)) (edge-item bs _ e)
        ∙ label_same α (assigned h r p) most _ (edge-names (λ x. α x ≡ assigned h r p x) r.right agree j k d)
        ∙ (edge_at j k d b).label
