-- A graph with one edge more, unmarked and unlabelled, under a name that no edge has. Two edges can be added in either order.
-- Rests on Graphs.
use Rattle.std.specs.Prelude.{◌≡◌, refl, ◌⊎◌, true, [], ℕ, eqb}
use Rattle.std.proofs.Common.{sym, ◌∙◌, inl, inr, eqb-true, eq-eqb}
use Rattle.std.proofs.Math.Decide.{ℕ_discrete}
use Rattle.meaning.specs.Tags.{none_mark}
use Rattle.meaning.specs.Basics.{choose, either}
use Rattle.meaning.specs.Laws.Tests.{choose_eq, choose_ne, either_left, either-right, either_true}
use Rattle.published.specs.Graphs.{EdgeLabel, Graph, Edge, Iso}

abbrev plain : EdgeLabel
plain = record { mark = none_mark; list = [] }

-- G with an edge f from u to v
abbrev pub add : Graph → ℕ → ℕ → ℕ → Graph
add G f u v =
    record {
      is_node = G.is_node;
      is_edge = λ e. either (eqb e f) (G.is_edge e);
      source = λ e. choose (eqb e f) u (G.source e);
      target = λ e. choose (eqb e f) v (G.target e);
      node_label = G.node_label;
      edge_label = λ e. choose (eqb e f) plain (G.edge_label e);
    }

module _ (G : Graph) (f u v : ℕ) where
  pub new-edge : Edge (add G f u v) f
  new-edge = either_left _ _ (eq-eqb f f refl)

  pub old-edge : (e : ℕ) → Edge G e → Edge (add G f u v) e
  old-edge e k = either-right _ _ k

  -- an edge is the new one or an old one
  pub which : (e : ℕ) → Edge (add G f u v) e → (e ≡ f) ⊎ Edge G e
  which e k = at (either_true _ _ k)
    where
      at : (eqb e f ≡ true) ⊎ Edge G e → (e ≡ f) ⊎ Edge G e
      at (inl q) = inl (eqb-true e f q)
      at (inr q) = inr q

  pub new-source : (add G f u v).source f ≡ u
  new-source = choose_eq f f _ _ refl

  pub new-target : (add G f u v).target f ≡ v
  new-target = choose_eq f f _ _ refl

  pub new-label : (add G f u v).edge_label f ≡ plain
  new-label = choose_eq f f _ _ refl

  module _ (fresh : Edge G f → ⊥) where
    other : (e : ℕ) → Edge G e → e ≡ f → ⊥
    other e k q = fresh (rw q at k)

    pub old-source : (e : ℕ) → Edge G e → (add G f u v).source e ≡ G.source e
    old-source e k = choose_ne e f _ _ (other e k)

    pub old-target : (e : ℕ) → Edge G e → (add G f u v).target e ≡ G.target e
    old-target e k = choose_ne e f _ _ (other e k)

    pub old-label : (e : ℕ) → Edge G e → (add G f u v).edge_label e ≡ G.edge_label e
    old-label e k = choose_ne e f _ _ (other e k)

-- Two edges.

two : {A : Type 0} (e f f' : ℕ) (x x' y : A) → (f ≡ f' → ⊥)
    → choose (eqb e f) x (choose (eqb e f') x' y) ≡ choose (eqb e f') x' (choose (eqb e f) x y)
two e f f' x x' y apart = at (ℕ_discrete e f) (ℕ_discrete e f')
  where
    at : Dec (e ≡ f) → Dec (e ≡ f') → choose (eqb e f) x (choose (eqb e f') x' y) ≡ choose (eqb e f') x' (choose (eqb e f) x y)
    at (yes p) d =
        let n = choose_ne e f' x' (choose (eqb e f) x y) (λ q. apart (sym p ∙ q)) in
        choose_eq e f _ _ p ∙ sym (n ∙ choose_eq e f x y p)
    at (no n) (yes q) = choose_ne e f _ _ n ∙ choose_eq e f' x' y q ∙ sym (choose_eq e f' x' (choose (eqb e f) x y) q)
    at (no n) (no k) =
        let a = choose_ne e f x (choose (eqb e f') x' y) n ∙ choose_ne e f' x' y k in
        let b = choose_ne e f' x' (choose (eqb e f) x y) k ∙ choose_ne e f x y n in
        a ∙ sym b

both-edges : (G : Graph) (f u v f' u' v' e : ℕ) → Edge (add (add G f u v) f' u' v') e → Edge (add (add G f' u' v') f u v) e
both-edges G f u v f' u' v' e k = at (which (add G f u v) f' u' v' e k)
  where
    at : (e ≡ f') ⊎ Edge (add G f u v) e → Edge (add (add G f' u' v') f u v) e
    at (inl q) = old-edge (add G f' u' v') f u v e (rw q (new-edge G f' u' v'))
    at (inr q) = from (which G f u v e q)
      where
        from : (e ≡ f) ⊎ Edge G e → Edge (add (add G f' u' v') f u v) e
        from (inl p) = rw p (new-edge (add G f' u' v') f u v)
        from (inr p) = old-edge (add G f' u' v') f u v e (old-edge G f' u' v' e p)

pub either_order : (G : Graph) (f u v f' u' v' : ℕ) → (f ≡ f' → ⊥) → Iso (add (add G f u v) f' u' v') (add (add G f' u' v') f u v)
either_order G f u v f' u' v' apart =
    record {
      node = λ x. x;
      edge = λ e. e;
      node_back = λ x. x;
      edge_back = λ e. e;
      nodes = λ x k. k;
      edges = λ e k. both-edges G f u v f' u' v' e k;
      nodes_back = λ x k. k;
      edges_back = λ e k. both-edges G f' u' v' f u v e k;
      node_there = λ x k. refl;
      edge_there = λ e k. refl;
      node_here = λ x k. refl;
      edge_here = λ e k. refl;
      sources = λ e k. two e f f' u u' (G.source e) apart;
      targets = λ e k. two e f f' v v' (G.target e) apart;
      node_labels = λ x k. refl;
      edge_labels = λ e k. two e f f' plain plain (G.edge_label e) apart;
    }
