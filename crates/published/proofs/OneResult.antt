-- The construction has one result: two graphs that are constructed with the same premorphism and assignment are isomorphic, as
-- document 000 says below Definition 2.3. Rests on RuleApplication and Isomorphism.
use Rattle.std.specs.Prelude.{ℕ, zero, suc, ◌<◌, ◌≤◌, ◌≡◌, ◌⊎◌, Bool, true, false, List, [], ◌∷◌, length}
use Rattle.std.proofs.Math.Path.{refl, ap}
use Rattle.std.proofs.Common.{sym, ◌∙◌, inl, inr, arith}
use Rattle.std.proofs.Math.Decide.{ℕ_discrete, dec_lt}
use borrow.Author.Tests.{ltb-true}
use Rattle.meaning.specs.Image.{Rule, RuleNode, RuleEdge}
use Rattle.meaning.specs.References.{ends_exist, rule_holds}
use Rattle.meaning.specs.Laws.Tests.{both_true, choose_lt, choose_le, every_true, clauses-true}
use Rattle.meaning.specs.declared.Element.{Element}
use Rattle.meaning.specs.declared.Element.TheVariants.{Constant, Variable, Sum, Difference}
use Rattle.published.specs.Graphs.{NodeLabel, EdgeLabel, Graph, Node, Edge, HostGraph, Iso}
use Rattle.published.specs.RuleApplication.{edge_of, Premorphism, Evaluates, Instance, StaysEdge, Union, NodeInstance, EdgeInstance, placed, Constructed, Matches}
use Rattle.published.proofs.Isomorphism.{interface-stays}
use Rattle.published.specs.OneResult as Defs

-- An expression has one instance.

module _ (α : ℕ → List ℕ) where
  evaluates_one : (x : Element) (a b : List ℕ) → Evaluates α x a → Evaluates α x b → a ≡ b
  evaluates_one (Constant c) a b e f = e ∙ sym f
  evaluates_one (Variable v) a b e f = e ∙ sym f
  evaluates_one (Sum c d) a b e f = e ∙ sym f
  evaluates_one (Difference c d) a b e f = e ∙ sym f

  instance-one : (l : List Element) (a b : List ℕ) → Instance α l a → Instance α l b → a ≡ b
  instance-one [] a b e f = e ∙ sym f
  instance-one (x ∷ l) a b e f =
      let p = evaluates_one x e.0 f.0 e.2 f.2 in
      let q = instance-one l e.1 f.1 e.3 f.3 in
      e.4 ∙ rw (p, q) (sym f.4)

  node-one : (n : RuleNode) (m t : ℕ) (a b : NodeLabel) → NodeInstance α n m t a → NodeInstance α n m t b → a ≡ b
  node-one n m t a b e f =
      let p = e.mark ∙ sym f.mark in
      let q = e.root ∙ sym f.root in
      let s = instance-one n.label a.list b.list e.list f.list in
      λ i. record { mark = p i; root = q i; list = s i }

  edge-one : (n : RuleEdge) (a b : EdgeLabel) → EdgeInstance α n a → EdgeInstance α n b → a ≡ b
  edge-one n a b e f =
      let p = e.mark ∙ sym f.mark in
      let s = instance-one n.label a.list b.list e.list f.list in
      λ i. record { mark = p i; list = s i }

-- Two unions of the same: from one to the other.

module _ (A B : ℕ → Type 0) (c : ℕ → Bool) (f h f' h' : ℕ → ℕ) (u : Union A B (λ z. c z ≡ true) f h) where
  pick : (z : ℕ) → ((x : ℕ) × A x × (f x ≡ z)) ⊎ ((x : ℕ) × B x × (h x ≡ z)) → ℕ
  pick z (inl t) = f' t.0
  pick z (inr t) = h' t.0

  across_if : (z : ℕ) (b : Bool) → c z ≡ b → ℕ
  across_if z true e = pick z (u.all z e)
  across_if z false e = 0

  across : ℕ → ℕ
  across z = across_if z (c z) refl

  across-a : (x : ℕ) → A x → across (f x) ≡ f' x
  unfolding across across_if pick
  across-a x a = at (c (f x)) refl
    where
      from : (s : ((y : ℕ) × A y × (f y ≡ f x)) ⊎ ((y : ℕ) × B y × (h y ≡ f x))) → pick (f x) s ≡ f' x
      from (inl t) = ap f' (u.apart_a t.0 x t.1 a t.2)
      from (inr t) = absurd (u.apart x t.0 a t.1 (sym t.2))

      at : (b : Bool) (e : c (f x) ≡ b) → across_if (f x) b e ≡ f' x
      at true e = from (u.all (f x) e)
      at false e = let k = u.from_a x a in let z : ◌≡◌ {A = ℕ} 0 1 = cc in absurd (omega arith)

  across_b : (x : ℕ) → B x → across (h x) ≡ h' x
  unfolding across across_if pick
  across_b x b = at (c (h x)) refl
    where
      from : (s : ((y : ℕ) × A y × (f y ≡ h x)) ⊎ ((y : ℕ) × B y × (h y ≡ h x))) → pick (h x) s ≡ h' x
      from (inl t) = absurd (u.apart t.0 x t.1 b t.2)
      from (inr t) = ap h' (u.apart_b t.0 x t.1 b t.2)

      at : (d : Bool) (e : c (h x) ≡ d) → across_if (h x) d e ≡ h' x
      at true e = from (u.all (h x) e)
      at false e = let k = u.from_b x b in let z : ◌≡◌ {A = ℕ} 0 1 = cc in absurd (omega arith)

-- what holds of both parts of a union holds of all of it
pub on-union : (A B C : ℕ → Type 0) (f h : ℕ → ℕ) → Union A B C f h → (P : ℕ → Type 0) → ((x : ℕ) → A x → P (f x)) → ((x : ℕ) → B x → P (h x))
    → (z : ℕ) → C z → P z
on-union A B C f h u P a b z c = at (u.all z c)
  where
    at : ((x : ℕ) × A x × (f x ≡ z)) ⊎ ((x : ℕ) × B x × (h x ≡ z)) → P z
    at (inl t) = rw t.2 at (a t.0 t.1)
    at (inr t) = rw t.2 at (b t.0 t.1)

-- is v a value of f below n
pub value_of : (f : ℕ → ℕ) (n v : ℕ) → ((i : ℕ) × (i < n) × (f i ≡ v)) ⊎ ((i : ℕ) → i < n → f i ≡ v → ⊥)
value_of f zero v = inr (λ i h. absurd (omega arith))
value_of f (suc n) v = at (ℕ_discrete (f n) v) (value_of f n v)
  where
    none : (f n ≡ v → ⊥) → ((i : ℕ) → i < n → f i ≡ v → ⊥) → (i : ℕ) → Dec (i ≡ n) → i < suc n → f i ≡ v → ⊥
    none d g i (yes q) h e = d (ap f (sym q) ∙ e)
    none d g i (no q) h e = g i (omega arith) e

    at : Dec (f n ≡ v) → ((i : ℕ) × (i < n) × (f i ≡ v)) ⊎ ((i : ℕ) → i < n → f i ≡ v → ⊥)
        → ((i : ℕ) × (i < suc n) × (f i ≡ v)) ⊎ ((i : ℕ) → i < suc n → f i ≡ v → ⊥)
    at (yes d) s = inl (n, omega arith, d)
    at (no d) (inl t) = inl (t.0, omega (arith, t.1), t.2)
    at (no d) (inr g) = inr (λ i. none d g i (ℕ_discrete i n))

module _ (r : Rule) (holds : rule_holds r ≡ true) (G : Graph) (host : HostGraph G) (m : Matches r G) where
  abbrev g : Premorphism r.left G
  g = Defs.g r holds G host m

  abbrev Stays : ℕ → Type 0
  Stays = Defs.Stays r holds G host m

  abbrev New : ℕ → Type 0
  New j = (r.interface ≤ j) × (j < length r.right.nodes)

  -- the ends of an edge that stays, by the dangling condition
  pub source_stays : (e : ℕ) → StaysEdge r G g e → Stays (G.source e)
  source_stays e s =
      record {
        node = host.sources e s.edge;
        kept = λ j k l q. let t = m.dangling e j s.edge k l (inl (sym q)) in s.kept t.0 t.1 t.2;
      }

  pub target-stays : (e : ℕ) → StaysEdge r G g e → Stays (G.target e)
  target-stays e s =
      record {
        node = host.targets e s.edge;
        kept = λ j k l q. let t = m.dangling e j s.edge k l (inr (sym q)) in s.kept t.0 t.1 t.2;
      }

  pub right_end : (k : ℕ) → k < length r.right.edges
      → ((edge_of r.right k).source < length r.right.nodes) × ((edge_of r.right k).target < length r.right.nodes)
  unfolding rule_holds ends_exist
  right_end k l =
      let t = both_true _ _ (every_true _ r.right.edges _ (clauses-true _ holds 2) k l) in
      (ltb-true _ _ t.0, ltb-true _ _ t.1)

  -- from one result to another
  module _ (H H' : Graph) (c : Constructed r G g m.α.of H) (c' : Constructed r G g m.α.of H') where
    node : ℕ → ℕ
    node = across Stays New H.is_node c.keep_node c.new_node c'.keep_node c'.new_node c.nodes

    edge : ℕ → ℕ
    edge = across (StaysEdge r G g) _ H.is_edge c.keep_edge c.new_edge c'.keep_edge c'.new_edge c.edges

    node_kept : (v : ℕ) → Stays v → node (c.keep_node v) ≡ c'.keep_node v
    unfolding node
    node_kept v s = across-a Stays New H.is_node c.keep_node c.new_node c'.keep_node c'.new_node c.nodes v s

    node-new : (j : ℕ) → New j → node (c.new_node j) ≡ c'.new_node j
    unfolding node
    node-new j n = across_b Stays New H.is_node c.keep_node c.new_node c'.keep_node c'.new_node c.nodes j n

    edge_kept : (e : ℕ) → StaysEdge r G g e → edge (c.keep_edge e) ≡ c'.keep_edge e
    unfolding edge
    edge_kept e s =
        across-a (StaysEdge r G g) _ H.is_edge c.keep_edge c.new_edge c'.keep_edge c'.new_edge c.edges e s

    edge-new : (k : ℕ) → k < length r.right.edges → edge (c.new_edge k) ≡ c'.new_edge k
    unfolding edge
    edge-new k l =
        across_b (StaysEdge r G g) _ H.is_edge c.keep_edge c.new_edge c'.keep_edge c'.new_edge c.edges k l

    on-nodes : (P : ℕ → Type 0) → ((v : ℕ) → Stays v → P (c.keep_node v)) → ((j : ℕ) → New j → P (c.new_node j)) → (v : ℕ) → Node H v → P v
    on-nodes = on-union Stays New (Node H) c.keep_node c.new_node c.nodes

    on-edges : (P : ℕ → Type 0) → ((e : ℕ) → StaysEdge r G g e → P (c.keep_edge e))
        → ((k : ℕ) → k < length r.right.edges → P (c.new_edge k)) → (e : ℕ) → Edge H e → P e
    on-edges = on-union (StaysEdge r G g) _ (Edge H) c.keep_edge c.new_edge c.edges

    nodes-over : (v : ℕ) → Node H v → Node H' (node v)
    nodes-over =
        on-nodes (λ v. Node H' (node v)) (λ v s. rw (node_kept v s) (c'.nodes.from_a v s)) (λ j n. rw (node-new j n) (c'.nodes.from_b j n))

    edges-over : (e : ℕ) → Edge H e → Edge H' (edge e)
    edges-over =
        on-edges (λ e. Edge H' (edge e)) (λ e s. rw (edge_kept e s) (c'.edges.from_a e s)) (λ k l. rw (edge-new k l) (c'.edges.from_b k l))

    -- a right node, wherever it stands
    placed-over : (j : ℕ) → j < length r.right.nodes
        → placed r g.node c'.keep_node c'.new_node j ≡ node (placed r g.node c.keep_node c.new_node j)
    placed-over j l = at (dec_lt j r.interface)
      where
        at : Dec (j < r.interface)
            → placed r g.node c'.keep_node c'.new_node j ≡ node (placed r g.node c.keep_node c.new_node j)
        at (yes k) =
            choose_lt j r.interface _ _ k ∙ sym (node_kept _ (interface-stays r holds G g m.injective j k))
            ∙ ap node (sym (choose_lt j r.interface _ _ k))
        at (no k) =
            choose_le j r.interface _ _ (omega arith) ∙ sym (node-new j (omega arith, l))
            ∙ ap node (sym (choose_le j r.interface _ _ (omega arith)))

    sources-over : (e : ℕ) → Edge H e → H'.source (edge e) ≡ node (H.source e)
    sources-over =
        on-edges (λ e. H'.source (edge e) ≡ node (H.source e))
        (λ e s. rw (edge_kept e s, c.kept_sources e s, node_kept _ (source_stays e s)) (c'.kept_sources e s))
        (λ k l. rw (edge-new k l, c.new_sources k l) (c'.new_sources k l ∙ placed-over _ (right_end k l).0))

    targets-over : (e : ℕ) → Edge H e → H'.target (edge e) ≡ node (H.target e)
    targets-over =
        on-edges (λ e. H'.target (edge e) ≡ node (H.target e))
        (λ e s. rw (edge_kept e s, c.kept_targets e s, node_kept _ (target-stays e s)) (c'.kept_targets e s))
        (λ k l. rw (edge-new k l, c.new_targets k l) (c'.new_targets k l ∙ placed-over _ (right_end k l).1))

    kept_label : (v : ℕ) → Stays v → H'.node_label (c'.keep_node v) ≡ H.node_label (c.keep_node v)
    kept_label v s = at (value_of g.node r.interface v)
      where
        at : ((i : ℕ) × (i < r.interface) × (g.node i ≡ v)) ⊎ ((i : ℕ) → i < r.interface → g.node i ≡ v → ⊥)
            → H'.node_label (c'.keep_node v) ≡ H.node_label (c.keep_node v)
        at (inl t) = rw (← t.2) (node-one m.α.of _ _ _ _ _ (c'.interface_labels t.0 t.1) (c.interface_labels t.0 t.1))
        at (inr f) = c'.kept_labels v s f ∙ sym (c.kept_labels v s f)

    labels-over : (v : ℕ) → Node H v → H'.node_label (node v) ≡ H.node_label v
    labels-over =
        on-nodes (λ v. H'.node_label (node v) ≡ H.node_label v) (λ v s. rw (node_kept v s) (kept_label v s))
        (λ j n. rw (node-new j n) (node-one m.α.of _ _ _ _ _ (c'.new_labels j n.0 n.1) (c.new_labels j n.0 n.1)))

    edge-labels-over : (e : ℕ) → Edge H e → H'.edge_label (edge e) ≡ H.edge_label e
    edge-labels-over =
        on-edges (λ e. H'.edge_label (edge e) ≡ H.edge_label e)
        (λ e s. rw (edge_kept e s) (c'.kept_edge_labels e s ∙ sym (c.kept_edge_labels e s)))
        (λ k l. rw (edge-new k l) (edge-one m.α.of _ _ _ (c'.new_edge_labels k l) (c.new_edge_labels k l)))

  module _ (H H' : Graph) (c : Constructed r G g m.α.of H) (c' : Constructed r G g m.α.of H') where
    node-there : (v : ℕ) → Node H v → node H' H c' c (node H H' c c' v) ≡ v
    node-there =
        on-nodes H H' c c' (λ v. node H' H c' c (node H H' c c' v) ≡ v)
        (λ v s. rw (node_kept H H' c c' v s) (node_kept H' H c' c v s)) (λ j n. rw (node-new H H' c c' j n) (node-new H' H c' c j n))

    edge-there : (e : ℕ) → Edge H e → edge H' H c' c (edge H H' c c' e) ≡ e
    edge-there =
        on-edges H H' c c' (λ e. edge H' H c' c (edge H H' c c' e) ≡ e)
        (λ e s. rw (edge_kept H H' c c' e s) (edge_kept H' H c' c e s)) (λ k l. rw (edge-new H H' c c' k l) (edge-new H' H c' c k l))

  -- the results are isomorphic
  pub one-result : (H H' : Graph) → Constructed r G m.g m.α.of H → Constructed r G m.g m.α.of H' → Iso H H'
  one-result H H' c c' =
      record {
        node = node H H' c c';
        edge = edge H H' c c';
        node_back = node H' H c' c;
        edge_back = edge H' H c' c;
        nodes = nodes-over H H' c c';
        edges = edges-over H H' c c';
        nodes_back = nodes-over H' H c' c;
        edges_back = edges-over H' H c' c;
        node_there = node-there H H' c c';
        edge_there = edge-there H H' c c';
        node_here = node-there H' H c' c;
        edge_here = edge-there H' H c' c;
        sources = sources-over H H' c c';
        targets = targets-over H H' c c';
        node_labels = labels-over H H' c c';
        edge_labels = edge-labels-over H H' c c';
      }
