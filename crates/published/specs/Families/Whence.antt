-- Where the nodes of a result come from: a node is one that the match leaves alone, with the label that it had, or stands where the
-- right side puts one of its nodes, with that node's root flag and mark, or with the root flag that it had. Rests on
-- RuleApplication and OneResult.
use Rattle.std.specs.Prelude.{◌≡◌, ◌⊎◌, ℕ, ◌<◌, length}
use Rattle.meaning.specs.Image.{Rule}
use Rattle.meaning.specs.Tags.{any_mark}
use Rattle.published.specs.Graphs.{Graph}
use Rattle.published.specs.RuleApplication.{node_of, StaysNode, placed, Applies}

module _ (r : Rule) (G H : Graph) (a : Applies r G H) where
  -- where a right node stands
  abbrev pub place : ℕ → ℕ
  place = placed r a.match.g.node a.constructed.keep_node a.constructed.new_node

  -- v is matched
  abbrev pub Matched : ℕ → Type 0
  Matched v = (i : ℕ) × (i < length r.left.nodes) × (a.match.g.node i ≡ v)

  -- z is the node v, which is not matched
  pub record Untouched (v z : ℕ) : Type 0 where
    pub stays : StaysNode r G a.match.g v
    pub free : Matched v → ⊥
    pub here : a.constructed.keep_node v ≡ z
    pub label : H.node_label z ≡ G.node_label v

  abbrev pub Other : ℕ → Type 0
  Other z = (v : ℕ) × Untouched v z

  -- z has the root flag that it had: it is the right node j, of the interface and no root on the left
  pub record RootKept (j z : ℕ) : Type 0 where
    pub inside : j < r.interface
    pub left : (node_of r.left j).root ≡ 0
    pub root : (H.node_label z).root ≡ (G.node_label (a.match.g.node j)).root

  -- z is the right node j
  pub record Right (z : ℕ) : Type 0 where
    pub node : ℕ
    pub listed : node < length r.right.nodes
    pub here : place node ≡ z
    pub root : ((H.node_label z).root ≡ (node_of r.right node).root) ⊎ RootKept node z
    pub mark : ((node_of r.right node).mark ≡ any_mark → ⊥) → (H.node_label z).mark ≡ (node_of r.right node).mark
