-- A right side that can be held in labels of some atoms can be held in labels of more, and is the same.
-- Rests on the meaning's Applying and Laws/Tests.
use Rattle.std.specs.Prelude.{ℕ, suc, ◌≤◌, ◌≡◌}
use Rattle.std.proofs.Common.{◌∙◌, arith}
use Rattle.std.proofs.Math.Option.{Option, some}
use mathlib.Core.List.{List, [], ◌∷◌}
use borrow.Author.Tests.{leb-true, le-leb}
use Rattle.std.proofs.Math.ListN.{length}
use Rattle.meaning.specs.Basics.{concat, each}
use Rattle.meaning.specs.Layout.{Node, Edge, Host}
use Rattle.meaning.specs.Image.{RuleNode, RuleEdge, Rule}
use Rattle.meaning.specs.Matching.{Assignment}
use Rattle.meaning.specs.Assigned.{assigned}
use Rattle.meaning.specs.Applying.{element_value, label_value, right_node, right_nodes, right_edge, Right, right_side}
use Rattle.meaning.specs.Laws.Tests.{bind_same, ensure-some, ensure-yes}
use Rattle.meaning.specs.declared.Element.{Element}

each_same : {A B : Type 0} (f g : A → Option B) → ((a : A) (b : B) → f a ≡ some b → g a ≡ some b)
    → (l : List A) (m : List B) → each f l ≡ some m → each g l ≡ some m
unfolding each
each_same f g h [] m e = e
each_same f g h (a ∷ l) m e =
    bind_same (f a) (g a) _ _ m (h a) (λ b q. bind_same (each f l) (each g l) _ _ m (each_same f g h l) (λ n i. i) q) e

module _ (most most' : ℕ) (larger : most ≤ most') where
  label_value_larger : (α : Assignment) (l : List Element) (v : List ℕ) → label_value most α l ≡ some v → label_value most' α l ≡ some v
  unfolding label_value
  label_value_larger α l v e =
      bind_same (each (element_value α) l) _ _ _ v (λ parts i. i)
      (λ parts q.
      let u = ensure-some _ _ v q in
      let n : length (concat parts) ≤ most' = omega (arith, leb-true (length (concat parts)) most u.0) in
      ensure-yes _ _ (le-leb _ _ n) ∙ u.1) e

  module _ (r : Rule) (α : Assignment) where
    right_node_larger : (h : Host) (p : List ℕ) (j : ℕ) (n : RuleNode) (v : Node)
        → right_node most r α h p j n ≡ some v → right_node most' r α h p j n ≡ some v
    unfolding right_node
    right_node_larger h p j n v e = bind_same (label_value most α n.label) _ _ _ v (label_value_larger α n.label) (λ l i. i) e

    right_nodes_larger : (h : Host) (p : List ℕ) (j : ℕ) (l : List RuleNode) (m : List Node)
        → right_nodes most r α h p j l ≡ some m → right_nodes most' r α h p j l ≡ some m
    unfolding right_nodes
    right_nodes_larger h p j [] m e = e
    right_nodes_larger h p j (n ∷ l) m e =
        bind_same (right_node most r α h p j n) _ _ _ m (right_node_larger h p j n)
        (λ v q. bind_same (right_nodes most r α h p (suc j) l) _ _ _ m (right_nodes_larger h p (suc j) l) (λ n i. i) q) e

    right_edge_larger : (e : RuleEdge) (v : Edge) → right_edge most α e ≡ some v → right_edge most' α e ≡ some v
    unfolding right_edge
    right_edge_larger e v q = bind_same (label_value most α e.label) _ _ _ v (label_value_larger α e.label) (λ l i. i) q

  pub right_side_larger : (h : Host) (r : Rule) (p : List ℕ) (right : Right)
      → right_side most h r p ≡ some right → right_side most' h r p ≡ some right
  unfolding right_side
  right_side_larger h r p right e =
      let α = assigned h r p in
      bind_same (right_nodes most r α h p 0 r.right.nodes) _ _ _ right (right_nodes_larger r α h p 0 r.right.nodes)
      (λ n q.
      bind_same (each (right_edge most α) r.right.edges) _ _ _ right
      (each_same (right_edge most α) (right_edge most' α) (right_edge_larger r α) r.right.edges) (λ l i. i) q) e
