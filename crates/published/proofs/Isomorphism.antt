-- Names do not matter: isomorphism is an equivalence of host graphs, and rule application is closed under it, on both sides.
-- Rests on RuleApplication.
use Rattle.std.specs.Prelude.{ℕ, ◌<◌, ◌≡◌, refl, ◌⊎◌, ◌↔◌, Bool, true, false, List, map, ltb, get_or}
use Rattle.std.proofs.Common.{sym, ◌∙◌, inl, inr, arith, ltb-true}
use Rattle.std.proofs.Math.Path.{ap}
use Rattle.std.proofs.Math.Decide.{dec_lt}
use Rattle.std.proofs.lemmas.List.{length-map}
use Rattle.meaning.specs.Basics.{choose}
use Rattle.meaning.specs.Image.{Rule}
use Rattle.meaning.specs.References.{condition_nodes, test_nodes_exist, rule_holds}
use Rattle.meaning.specs.Commands.{rule_at}
use Rattle.meaning.specs.Laws.Tests.{choose_le, clauses-true}
use Rattle.meaning.specs.Laws.Every.{Every, Every-true, Every-with}
use Rattle.laws.specs.Pieces.{get_or-map_in}
use Rattle.meaning.specs.Laws.Interface.{interface-left}
use Rattle.meaning.specs.declared.Condition.{Condition}
use Rattle.meaning.specs.declared.Condition.TheVariants.{Edge as edge_between, InDegree, OutDegree, Equal, Less}
use Rattle.published.specs.Graphs.{Graph, Node, Edge, HostGraph, Iso}
use Rattle.published.specs.RuleApplication.{edge_of, Premorphism, Injective, Incident, Dangling, Exactly, Holds, TestTrue, StaysNode, StaysEdge, Union, placed, Constructed, Matches, Applies, Applied}

-- An equivalence.

pub iso-same : (G : Graph) → Iso G G
iso-same G =
    record {
      node = λ v. v;
      edge = λ e. e;
      node_back = λ v. v;
      edge_back = λ e. e;
      nodes = λ v h. h;
      edges = λ e h. h;
      nodes_back = λ v h. h;
      edges_back = λ e h. h;
      node_there = λ v h. refl;
      edge_there = λ e h. refl;
      node_here = λ v h. refl;
      edge_here = λ e h. refl;
      sources = λ e h. refl;
      targets = λ e h. refl;
      node_labels = λ v h. refl;
      edge_labels = λ e h. refl;
    }

pub iso-trans : (G H K : Graph) → Iso G H → Iso H K → Iso G K
iso-trans G H K i j =
    record {
      node = λ v. j.node (i.node v);
      edge = λ e. j.edge (i.edge e);
      node_back = λ v. i.node_back (j.node_back v);
      edge_back = λ e. i.edge_back (j.edge_back e);
      nodes = λ v h. j.nodes _ (i.nodes v h);
      edges = λ e h. j.edges _ (i.edges e h);
      nodes_back = λ v h. i.nodes_back _ (j.nodes_back v h);
      edges_back = λ e h. i.edges_back _ (j.edges_back e h);
      node_there = λ v h. ap i.node_back (j.node_there _ (i.nodes v h)) ∙ i.node_there v h;
      edge_there = λ e h. ap i.edge_back (j.edge_there _ (i.edges e h)) ∙ i.edge_there e h;
      node_here = λ v h. ap j.node (i.node_here _ (j.nodes_back v h)) ∙ j.node_here v h;
      edge_here = λ e h. ap j.edge (i.edge_here _ (j.edges_back e h)) ∙ j.edge_here e h;
      sources = λ e h. j.sources _ (i.edges e h) ∙ ap j.node (i.sources e h);
      targets = λ e h. j.targets _ (i.edges e h) ∙ ap j.node (i.targets e h);
      node_labels = λ v h. j.node_labels _ (i.nodes v h) ∙ i.node_labels v h;
      edge_labels = λ e h. j.edge_labels _ (i.edges e h) ∙ i.edge_labels e h;
    }

module _ (G H : Graph) (host : HostGraph G) (i : Iso G H) where
  -- the ends of an edge of H, back in G
  pub source-back : (e : ℕ) → Edge H e → G.source (i.edge_back e) ≡ i.node_back (H.source e)
  source-back e h =
      let b = i.edges_back e h in
      sym (i.node_there _ (host.sources _ b))
      ∙ ap i.node_back (sym (i.sources _ b) ∙ ap H.source (i.edge_here e h))

  pub target-back : (e : ℕ) → Edge H e → G.target (i.edge_back e) ≡ i.node_back (H.target e)
  target-back e h =
      let b = i.edges_back e h in
      sym (i.node_there _ (host.targets _ b))
      ∙ ap i.node_back (sym (i.targets _ b) ∙ ap H.target (i.edge_here e h))

  pub iso-back : Iso H G
  iso-back =
      record {
        node = i.node_back;
        edge = i.edge_back;
        node_back = i.node;
        edge_back = i.edge;
        nodes = i.nodes_back;
        edges = i.edges_back;
        nodes_back = i.nodes;
        edges_back = i.edges;
        node_there = i.node_here;
        edge_there = i.edge_here;
        node_here = i.node_there;
        edge_here = i.edge_there;
        sources = source-back;
        targets = target-back;
        node_labels = λ v h. sym (i.node_labels _ (i.nodes_back v h)) ∙ ap H.node_label (i.node_here v h);
        edge_labels = λ e h. sym (i.edge_labels _ (i.edges_back e h)) ∙ ap H.edge_label (i.edge_here e h);
      }

-- The result.

-- C' is the union where C is and goes over to C' one to one
union-over : (A B C C' : ℕ → Type 0) (f h over back : ℕ → ℕ) → ((z : ℕ) → C z → C' (over z)) → ((z : ℕ) → C' z → C (back z))
    → ((z : ℕ) → C z → back (over z) ≡ z) → ((z : ℕ) → C' z → over (back z) ≡ z) → Union A B C f h
    → Union A B C' (λ x. over (f x)) (λ x. over (h x))
union-over A B C C' f h over back to from there here u =
    record {
      from_a = λ x a. to _ (u.from_a x a);
      from_b = λ x b. to _ (u.from_b x b);
      apart_a = λ x y a b e. u.apart_a x y a b (one _ _ (u.from_a x a) (u.from_a y b) e);
      apart_b = λ x y a b e. u.apart_b x y a b (one _ _ (u.from_b x a) (u.from_b y b) e);
      apart = λ x y a b e. u.apart x y a b (one _ _ (u.from_a x a) (u.from_b y b) e);
      all = λ z c. at z (here z c) (u.all (back z) (from z c));
    }
  where
    one : (x y : ℕ) → C x → C y → over x ≡ over y → x ≡ y
    one x y c d e = sym (there x c) ∙ ap back e ∙ there y d

    at : (z : ℕ) → over (back z) ≡ z → ((x : ℕ) × A x × (f x ≡ back z)) ⊎ ((x : ℕ) × B x × (h x ≡ back z))
        → ((x : ℕ) × A x × (over (f x) ≡ z)) ⊎ ((x : ℕ) × B x × (over (h x) ≡ z))
    at z q (inl t) = inl (t.0, t.1, ap over t.2 ∙ q)
    at z q (inr t) = inr (t.0, t.1, ap over t.2 ∙ q)

choose_over : (f : ℕ → ℕ) (b : Bool) (x y : ℕ) → f (choose b x y) ≡ choose b (f x) (f y)
unfolding choose
choose_over f true x y = refl
choose_over f false x y = refl

-- a node of K stays
pub interface-stays : (r : Rule) → rule_holds r ≡ true → (G : Graph) (g : Premorphism r.left G) → Injective r.left G g
    → (i : ℕ) → i < r.interface → StaysNode r G g (g.node i)
interface-stays r holds G g one i k =
    let a = interface-left r holds in
    record {
      node = g.nodes i (omega arith);
      kept = λ j l u e. omega (arith, one.nodes j i u (omega arith) e);
    }

module _ (r : Rule) (holds : rule_holds r ≡ true) (G : Graph) (g : Premorphism r.left G) (one : Injective r.left G g)
    (α : ℕ → List ℕ) (H H' : Graph) (i : Iso H H')
  where
    placed-over : (keep new : ℕ → ℕ) (j : ℕ)
        → i.node (placed r g.node keep new j) ≡ placed r g.node (λ x. i.node (keep x)) (λ x. i.node (new x)) j
    placed-over keep new j = choose_over i.node (ltb j r.interface) (keep (g.node j)) (new j)

    constructed-over : Constructed r G g α H → Constructed r G g α H'
    constructed-over c =
        let n = c.nodes in
        let m = c.edges in
        record {
          keep_node = λ x. i.node (c.keep_node x);
          new_node = λ x. i.node (c.new_node x);
          keep_edge = λ x. i.edge (c.keep_edge x);
          new_edge = λ x. i.edge (c.new_edge x);
          nodes = union-over _ _ (Node H) (Node H') _ _ i.node i.node_back i.nodes i.nodes_back i.node_there i.node_here n;
          edges = union-over _ _ (Edge H) (Edge H') _ _ i.edge i.edge_back i.edges i.edges_back i.edge_there i.edge_here m;
          kept_sources = λ e s. i.sources _ (m.from_a e s) ∙ ap i.node (c.kept_sources e s);
          kept_targets = λ e s. i.targets _ (m.from_a e s) ∙ ap i.node (c.kept_targets e s);
          new_sources = λ k l.
              i.sources _ (m.from_b k l) ∙ ap i.node (c.new_sources k l)
              ∙ placed-over c.keep_node c.new_node (edge_of r.right k).source;
          new_targets = λ k l.
              i.targets _ (m.from_b k l) ∙ ap i.node (c.new_targets k l)
              ∙ placed-over c.keep_node c.new_node (edge_of r.right k).target;
          kept_labels = λ v s f. rw (i.node_labels _ (n.from_a v s)) (c.kept_labels v s f);
          interface_labels = λ j k.
              rw (i.node_labels _ (n.from_a _ (interface-stays r holds G g one j k))) (c.interface_labels j k);
          new_labels = λ j k l. rw (i.node_labels _ (n.from_b j (k, l))) (c.new_labels j k l);
          kept_edge_labels = λ e s. i.edge_labels _ (m.from_a e s) ∙ c.kept_edge_labels e s;
          new_edge_labels = λ k l. rw (i.edge_labels _ (m.from_b k l)) (c.new_edge_labels k l);
        }

-- The graph that the rule is applied to.

exactly-over : (P P' : ℕ → Type 0) (over back : ℕ → ℕ) → ((x : ℕ) → P x → P' (over x)) → ((x : ℕ) → P' x → P (back x))
    → ((x : ℕ) → P x → back (over x) ≡ x) → ((x : ℕ) → P' x → over (back x) ≡ x) → (n : ℕ) → Exactly n P → Exactly n P'
exactly-over P P' over back to from there here n x =
    record {
      list = map over x.list;
      size = length-map x.list over ∙ x.size;
      apart = λ i j k l e.
          x.apart i j k l
          (sym (there _ (x.each i k)) ∙ ap back (sym (at i k) ∙ e ∙ at j l) ∙ there _ (x.each j l));
      each = λ i k. rw (at i k) (to _ (x.each i k));
      all = λ y p. let t = x.all (back y) (from y p) in (t.0, t.1, at t.0 t.1 ∙ ap over t.2 ∙ here y p);
    }
  where
    at : (i : ℕ) → i < n → get_or (map over x.list) i 0 ≡ over (get_or x.list i 0)
    at i k = get_or-map_in over x.list i 0 0 (let s = x.size in omega arith)

-- C is the union of A' and B where it is that of A and B, and A' goes over to A one to one
union-from : (A A' B C : ℕ → Type 0) (f h over back : ℕ → ℕ) → ((x : ℕ) → A x → A' (over x)) → ((x : ℕ) → A' x → A (back x))
    → ((x : ℕ) → A x → back (over x) ≡ x) → ((x : ℕ) → A' x → over (back x) ≡ x) → Union A B C f h
    → Union A' B C (λ x. f (back x)) h
union-from A A' B C f h over back to from there here u =
    record {
      from_a = λ x a. u.from_a _ (from x a);
      from_b = u.from_b;
      apart_a = λ x y a b e. sym (here x a) ∙ ap over (u.apart_a _ _ (from x a) (from y b) e) ∙ here y b;
      apart_b = u.apart_b;
      apart = λ x y a b e. u.apart _ y (from x a) b e;
      all = λ z c. at z (u.all z c);
    }
  where
    at : (z : ℕ) → ((x : ℕ) × A x × (f x ≡ z)) ⊎ ((x : ℕ) × B x × (h x ≡ z))
        → ((x : ℕ) × A' x × (f (back x) ≡ z)) ⊎ ((x : ℕ) × B x × (h x ≡ z))
    at z (inl t) = inl (over t.0, to _ t.1, ap f (there _ t.1) ∙ t.2)
    at z (inr t) = inr t

module _ (G G' : Graph) (host : HostGraph G) (i : Iso G G') where
  node-one : (v w : ℕ) → Node G v → Node G w → i.node v ≡ i.node w → v ≡ w
  node-one v w h k e = sym (i.node_there v h) ∙ ap i.node_back e ∙ i.node_there w k

  edge-one : (v w : ℕ) → Edge G v → Edge G w → i.edge v ≡ i.edge w → v ≡ w
  edge-one v w h k e = sym (i.edge_there v h) ∙ ap i.edge_back e ∙ i.edge_there w k

  -- an edge of G' with an end at the image of v is the image of one with an end at v
  source-at : (v e : ℕ) → Node G v → Edge G' e → G'.source e ≡ i.node v → G.source (i.edge_back e) ≡ v
  source-at v e h k q = source-back G G' host i e k ∙ ap i.node_back q ∙ i.node_there v h

  target_at : (v e : ℕ) → Node G v → Edge G' e → G'.target e ≡ i.node v → G.target (i.edge_back e) ≡ v
  target_at v e h k q = target-back G G' host i e k ∙ ap i.node_back q ∙ i.node_there v h

  source-to : (v e : ℕ) → Edge G e → G.source e ≡ v → G'.source (i.edge e) ≡ i.node v
  source-to v e k q = i.sources e k ∙ ap i.node q

  target_to : (v e : ℕ) → Edge G e → G.target e ≡ v → G'.target (i.edge e) ≡ i.node v
  target_to v e k q = i.targets e k ∙ ap i.node q

  -- as many edges of G have their source at v, or their target, as edges of G' have it at the image of v
  ends-over : (end end' : ℕ → ℕ) (v m : ℕ)
      → ((e : ℕ) → Edge G e → end e ≡ v → end' (i.edge e) ≡ i.node v)
      → ((e : ℕ) → Edge G' e → end' e ≡ i.node v → end (i.edge_back e) ≡ v)
      → Exactly m (λ e. Edge G e × (end e ≡ v)) ↔ Exactly m (λ e. Edge G' e × (end' e ≡ i.node v))
  ends-over end end' v m to at = (
    exactly-over _ _ i.edge i.edge_back there back (λ e p. i.edge_there e p.0) (λ e p. i.edge_here e p.0) m,
    exactly-over _ _ i.edge_back i.edge back there (λ e p. i.edge_here e p.0) (λ e p. i.edge_there e p.0) m,
  )
    where
      there : (e : ℕ) → Edge G e × (end e ≡ v) → Edge G' (i.edge e) × (end' (i.edge e) ≡ i.node v)
      there e p = (i.edges e p.0, to e p.0 p.1)

      back : (e : ℕ) → Edge G' e × (end' e ≡ i.node v) → Edge G (i.edge_back e) × (end (i.edge_back e) ≡ v)
      back e p = (i.edges_back e p.0, at e p.0 p.1)

  module _ (node : ℕ → ℕ) (α : ℕ → List ℕ) where
    holds-over : (c : Condition) → Every (λ a. Node G (node a)) (condition_nodes c)
        → Holds G node α c ↔ Holds G' (λ a. i.node (node a)) α c
    unfolding condition_nodes
    holds-over (edge_between a b) n = (
      λ t. (i.edge t.0, i.edges _ t.1, source-to _ _ t.1 t.2, target_to _ _ t.1 t.3),
      λ t. (i.edge_back t.0, i.edges_back _ t.1, source-at _ _ n.0 t.1 t.2, target_at _ _ n.1.0 t.1 t.3),
    )
    holds-over (InDegree a m) n =
        ends-over G.target G'.target (node a) m (λ e. target_to _ e) (λ e. target_at _ e n.0)
    holds-over (OutDegree a m) n =
        ends-over G.source G'.source (node a) m (λ e. source-to _ e) (λ e. source-at _ e n.0)
    holds-over (Equal a b) n = (λ e. e, λ e. e)
    holds-over (Less a b) n = (λ e. e, λ e. e)

    signed-over : (s : Bool) (c : Condition) → Every (λ a. Node G (node a)) (condition_nodes c) → TestTrue G node α s c
        → TestTrue G' (λ a. i.node (node a)) α s c
    signed-over true c n h = λ k. h ((holds-over c n).1 k)
    signed-over false c n h = (holds-over c n).0 h

  module _ (r : Rule) (holds : rule_holds r ≡ true) (m : Matches r G) where
    abbrev g : Premorphism r.left G
    g = m.g

    abbrev g' : Premorphism r.left G'
    g' =
        record {
          node = λ x. i.node (g.node x);
          edge = λ x. i.edge (g.edge x);
          nodes = λ a h. i.nodes _ (g.nodes a h);
          edges = λ k h. i.edges _ (g.edges k h);
          sources = λ k h. source-to _ _ (g.edges k h) (g.sources k h);
          targets = λ k h. target_to _ _ (g.edges k h) (g.targets k h);
        }

    test-nodes : Every (λ t. Every (λ a. Node G (g.node a)) (condition_nodes t.condition)) r.tests
    unfolding rule_holds test_nodes_exist
    test-nodes =
        Every-true _ _ (λ t e. Every-true _ _ (λ a q. g.nodes a (ltb-true _ _ q)) (condition_nodes t.condition) e) r.tests
        (clauses-true _ holds 3)

    dangling-over : Dangling r G' g'
    dangling-over e j h k l q =
        let t = m.dangling (i.edge_back e) j (i.edges_back e h) k l (at q) in
        (t.0, t.1, ap i.edge t.2 ∙ i.edge_here e h)
      where
        at : Incident G' e (i.node (g.node j)) → Incident G (i.edge_back e) (g.node j)
        at (inl q) = inl (source-at _ e (g.nodes j l) h q)
        at (inr q) = inr (target_at _ e (g.nodes j l) h q)

    -- the match goes over
    match-over : Matches r G'
    match-over =
        let c = m.compatible in
        record {
          g = g';
          injective = record {
            nodes = λ a b k l e. m.injective.nodes a b k l (node-one _ _ (g.nodes a k) (g.nodes b l) e);
            edges = λ a b k l e. m.injective.edges a b k l (edge-one _ _ (g.edges a k) (g.edges b l) e);
          };
          α = m.α;
          compatible = record {
            nodes = λ a k. rw (i.node_labels _ (g.nodes a k)) (c.nodes a k);
            edges = λ a k. rw (i.edge_labels _ (g.edges a k)) (c.edges a k);
            node_marks = λ a k. rw (i.node_labels _ (g.nodes a k)) (c.node_marks a k);
            edge_marks = λ a k. rw (i.edge_labels _ (g.edges a k)) (c.edge_marks a k);
            roots = λ a k. rw (i.node_labels _ (g.nodes a k)) (c.roots a k);
          };
          dangling = dangling-over;
          condition = Every-with _ _ _ (λ t n s. signed-over g.node m.α.of t.negated t.condition n s) r.tests test-nodes m.condition;
        }

    stays-to : (v : ℕ) → StaysNode r G g v → StaysNode r G' g' (i.node v)
    stays-to v s =
        record {
          node = i.nodes v s.node;
          kept = λ j k l e. s.kept j k l (node-one _ _ (g.nodes j l) s.node e);
        }

    stays_at : (v : ℕ) → StaysNode r G' g' v → StaysNode r G g (i.node_back v)
    stays_at v s =
        record {
          node = i.nodes_back v s.node;
          kept = λ j k l e. s.kept j k l (ap i.node e ∙ i.node_here v s.node);
        }

    edge-stays-to : (e : ℕ) → StaysEdge r G g e → StaysEdge r G' g' (i.edge e)
    edge-stays-to e s =
        record { edge = i.edges e s.edge; kept = λ k l q. s.kept k l (edge-one _ _ (g.edges k l) s.edge q) }

    edge-stays-at : (e : ℕ) → StaysEdge r G' g' e → StaysEdge r G g (i.edge_back e)
    edge-stays-at e s =
        record {
          edge = i.edges_back e s.edge;
          kept = λ k l q. s.kept k l (ap i.edge q ∙ i.edge_here e s.edge);
        }

    module _ (H : Graph) (c : Constructed r G g m.α.of H) where
      there : (j : ℕ) → j < r.interface → i.node_back (i.node (g.node j)) ≡ g.node j
      there j k = let a = interface-left r holds in i.node_there _ (g.nodes j (omega arith))

      placed-from : (j : ℕ)
          → placed r g.node c.keep_node c.new_node j
          ≡ placed r (λ x. i.node (g.node x)) (λ x. c.keep_node (i.node_back x)) c.new_node j
      placed-from j = at (dec_lt j r.interface)
        where
          at : Dec (j < r.interface)
              → placed r g.node c.keep_node c.new_node j
              ≡ placed r (λ x. i.node (g.node x)) (λ x. c.keep_node (i.node_back x)) c.new_node j
          at (yes k) = rw (there j k)
          at (no k) = choose_le j r.interface _ _ (omega arith) ∙ sym (choose_le j r.interface _ _ (omega arith))

      constructed-from : Constructed r G' g' m.α.of H
      unfolding iso-back
      constructed-from =
          record {
            keep_node = λ x. c.keep_node (i.node_back x);
            new_node = c.new_node;
            keep_edge = λ x. c.keep_edge (i.edge_back x);
            new_edge = c.new_edge;
            nodes =
                union-from (StaysNode r G g) (StaysNode r G' g') _ (Node H) c.keep_node c.new_node i.node i.node_back stays-to stays_at
                (λ v s. i.node_there v s.node) (λ v s. i.node_here v s.node) c.nodes;
            edges =
                union-from (StaysEdge r G g) (StaysEdge r G' g') _ (Edge H) c.keep_edge c.new_edge i.edge i.edge_back edge-stays-to edge-stays-at
                (λ e s. i.edge_there e s.edge) (λ e s. i.edge_here e s.edge) c.edges;
            kept_sources = λ e s. c.kept_sources _ (edge-stays-at e s) ∙ ap c.keep_node (source-back G G' host i e s.edge);
            kept_targets = λ e s. c.kept_targets _ (edge-stays-at e s) ∙ ap c.keep_node (target-back G G' host i e s.edge);
            new_sources = λ k l. c.new_sources k l ∙ placed-from (edge_of r.right k).source;
            new_targets = λ k l. c.new_targets k l ∙ placed-from (edge_of r.right k).target;
            kept_labels = λ v s f.
                cc (
                  c.kept_labels _ (stays_at v s) (λ j k e. f j k (ap i.node e ∙ i.node_here v s.node)),
                  (iso-back G G' host i).node_labels v s.node,
                );
            interface_labels = λ j k.
                let a = interface-left r holds in
                rw (there j k, i.node_labels _ (g.nodes j (omega arith))) (c.interface_labels j k);
            new_labels = c.new_labels;
            kept_edge_labels = λ e s. c.kept_edge_labels _ (edge-stays-at e s) ∙ (iso-back G G' host i).edge_labels e s.edge;
            new_edge_labels = c.new_edge_labels;
          }

-- Rule application is closed under isomorphism.

pub applies-iso : (r : Rule) → rule_holds r ≡ true → (G G' H H' : Graph) → HostGraph G → Iso G G' → Iso H H' → Applies r G H → Applies r G' H'
unfolding match-over
applies-iso r holds G G' H H' host i j a =
    let m = match-over G G' host i r holds a.match in
    record {
      match = m;
      constructed =
          constructed-over r holds G' m.g m.injective m.α.of H H' j
          (constructed-from G G' host i r holds a.match H a.constructed);
    }

pub applied-iso : (R : List Rule) → ((k : ℕ) → rule_holds (rule_at R k) ≡ true) → (G G' H H' : Graph) → HostGraph G → Iso G G' → Iso H H'
    → Applied R G H → Applied R G' H'
applied-iso R holds G G' H H' host i j a =
    record {
      place = a.place;
      listed = a.listed;
      applies = applies-iso (rule_at R a.place) (holds a.place) G G' H H' host i j a.applies;
    }

-- the match of the application that an isomorphism of G takes over
pub applies-iso-nodes : (r : Rule) (holds : rule_holds r ≡ true) (G G' H H' : Graph) (host : HostGraph G) (i : Iso G G') (j : Iso H H')
    (a : Applies r G H) (k : ℕ) → (applies-iso r holds G G' H H' host i j a).match.g.node k ≡ i.node (a.match.g.node k)
unfolding applies-iso match-over
applies-iso-nodes r holds G G' H H' host i j a k = refl

pub applies-iso-edges : (r : Rule) (holds : rule_holds r ≡ true) (G G' H H' : Graph) (host : HostGraph G) (i : Iso G G') (j : Iso H H')
    (a : Applies r G H) (k : ℕ) → (applies-iso r holds G G' H H' host i j a).match.g.edge k ≡ i.edge (a.match.g.edge k)
unfolding applies-iso match-over
applies-iso-edges r holds G G' H H' host i j a k = refl
