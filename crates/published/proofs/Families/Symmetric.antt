-- Two matches of a rule that a symmetry of the graph takes to each other give isomorphic graphs: an isomorphism of the graph with
-- itself. With it two nodes that no edge touches and that are labelled alike can change places. Rests on Isomorphism and SameMatch.
use Rattle.std.specs.Prelude.{◌≡◌, refl, ℕ, ◌<◌, length}
use Rattle.std.proofs.Common.{sym, ◌∙◌, ap, inl, inr}
use Rattle.std.proofs.Math.Decide.{ℕ_discrete}
use Rattle.meaning.specs.Image.{Rule}
use Rattle.meaning.specs.Laws.Tests.{choose_eq, choose_ne}
use Rattle.laws.specs.Values.{LegalRule}
use Rattle.published.specs.Graphs.{Graph, Node, HostGraph, Iso}
use Rattle.published.specs.RuleApplication.{Applies}
use Rattle.published.proofs.Isomorphism.{iso-same, applies-iso, applies-iso-nodes, applies-iso-edges}
use Rattle.published.proofs.SameMatch.{same-match}
use Rattle.published.specs.Families.Symmetric.{Lone, swap}

pub symmetric : (r : Rule) → LegalRule r → (G H H' : Graph) → HostGraph G → (i : Iso G G) (a : Applies r G H) (b : Applies r G H')
    → ((k : ℕ) → k < length r.left.nodes → i.node (a.match.g.node k) ≡ b.match.g.node k)
    → ((k : ℕ) → k < length r.left.edges → i.edge (a.match.g.edge k) ≡ b.match.g.edge k) → Iso H H'
symmetric r legal G H H' host i a b nodes edges =
    same-match r (record { holds = legal.holds; types = legal.types }) G H H' host
    (applies-iso r legal.holds G G H H host i (iso-same H) a) b
    (record {
      nodes = λ k l. applies-iso-nodes r legal.holds G G H H host i (iso-same H) a k ∙ nodes k l;
      edges = λ k l. applies-iso-edges r legal.holds G G H H host i (iso-same H) a k ∙ edges k l;
    })

module _ (v w : ℕ) where
  swap-first : swap v w v ≡ w
  swap-first = choose_eq v v _ _ refl

  swap-second : swap v w w ≡ v
  swap-second = at (ℕ_discrete w v)
    where
      at : Dec (w ≡ v) → swap v w w ≡ v
      at (yes e) = choose_eq w v _ _ e ∙ e
      at (no n) = choose_ne w v _ _ n ∙ choose_eq w w _ _ refl

  swap-other : (x : ℕ) → (x ≡ v → ⊥) → (x ≡ w → ⊥) → swap v w x ≡ x
  swap-other x n k = choose_ne x v _ _ n ∙ choose_ne x w _ _ k

  -- what holds of both and of all others
  by_place : (x : ℕ) → (P : ℕ → Type 0) → P v → P w → ((x ≡ v → ⊥) → (x ≡ w → ⊥) → P x) → P x
  by_place x P a b c = at (ℕ_discrete x v) (ℕ_discrete x w)
    where
      at : Dec (x ≡ v) → Dec (x ≡ w) → P x
      at (yes e) k = rw e a
      at (no n) (yes e) = rw e b
      at (no n) (no k) = c n k

  swap-twice : (x : ℕ) → swap v w (swap v w x) ≡ x
  swap-twice x =
      by_place x (λ x. swap v w (swap v w x) ≡ x) (ap (swap v w) swap-first ∙ swap-second) (ap (swap v w) swap-second ∙ swap-first)
      (λ n k. ap (swap v w) (swap-other x n k) ∙ swap-other x n k)

  module _ (G : Graph) (kv : Node G v) (kw : Node G w) (lv : Lone G v) (lw : Lone G w) (same : G.node_label v ≡ G.node_label w) where
    swap-node : (x : ℕ) → Node G x → Node G (swap v w x)
    swap-node x k =
        by_place x (λ x. Node G (swap v w x)) (rw swap-first kw) (rw swap-second kv) (λ n l. rw (swap-other x n l) k)

    swap-label : (x : ℕ) → G.node_label (swap v w x) ≡ G.node_label x
    swap-label x =
        by_place x (λ x. G.node_label (swap v w x) ≡ G.node_label x) (ap G.node_label swap-first ∙ sym same)
        (ap G.node_label swap-second ∙ same) (λ n l. ap G.node_label (swap-other x n l))

    pub swapped : Iso G G
    swapped =
        record {
          node = swap v w;
          edge = λ e. e;
          node_back = swap v w;
          edge_back = λ e. e;
          nodes = swap-node;
          edges = λ e k. k;
          nodes_back = swap-node;
          edges_back = λ e k. k;
          node_there = λ x k. swap-twice x;
          edge_there = λ e k. refl;
          node_here = λ x k. swap-twice x;
          edge_here = λ e k. refl;
          sources = λ e k. sym (swap-other _ (λ q. lv e k (inl q)) (λ q. lw e k (inl q)));
          targets = λ e k. sym (swap-other _ (λ q. lv e k (inr q)) (λ q. lw e k (inr q)));
          node_labels = λ x k. swap-label x;
          edge_labels = λ e k. refl;
        }

    pub swapped-first : swapped.node v ≡ w
    unfolding swapped
    swapped-first = swap-first
