-- The published program transitive-closure (programs/transitive-closure), on all host graphs. Its rule links two nodes by an edge, and
-- which pair it links first decides how the graph goes on; but another pair that could be linked still can be, and in either
-- order the same graph comes of it. Rests on Diamond and OneEdgeMore.
use Rattle.std.specs.Prelude.{◌≡◌, refl, ◌⊎◌, [], ◌∷◌}
use Rattle.std.proofs.Math.Path.{sym}
use Rattle.std.proofs.Common.{◌∙◌, ap, inl, inr, arith}
use Rattle.std.proofs.Math.Option.{some}
use Prim.Native.Nat.{ℕ, zero, suc, ◌<◌, ◌≤◌}
use Rattle.std.proofs.Math.Decide.{ℕ_discrete}
use Rattle.meaning.specs.Procedures.{program}
use Rattle.meaning.specs.Basics.{choose}
use Rattle.meaning.specs.Computing.{computing}
use Rattle.laws.specs.Numbers.{bytes-by}
use Rattle.laws.specs.LegalCommands.{LegalRules}
use Rattle.laws.specs.LegalImage.{program-legal}
use Rattle.published.specs.Graphs.{Graph, Node, Edge, HostGraph, Iso}
use Rattle.published.specs.RuleApplication.{node_of, edge_of, StaysNode, StaysEdge, Union, NodeInstance, EdgeInstance, mark_from, placed, Constructed, Matches, Applies, Applied}
use Rattle.published.proofs.Isomorphism.{iso-same, iso-trans, iso-back, applies-iso}
use Rattle.published.proofs.OneResult.{one-result, value_of}
use Rattle.published.proofs.HostResult.{applies-host}
use Rattle.published.specs.Semantics.{com_seq}
use Rattle.published.specs.Steady.{Always}
use Rattle.published.proofs.Steady.{sole}
use Rattle.published.specs.Diamond.{Diamond}
use Rattle.published.proofs.Diamond.{diamond-decided}
use Rattle.published.specs.OnlyOutcome.{OneOutcome}
use Rattle.published.proofs.OnlyOutcome.{decided-outcome}
use Rattle.published.specs.Instances.OneEdgeMore.{add, new-edge, old-edge, which, new-source, new-target, new-label, old-source, old-target, old-label, either_order}
use Rattle.published.specs.Instances.TransitiveClosure.{image, link, tree}

pub transitive_closure_is : program image ≡ some tree
unfolding computing
transitive_closure_is = refl

legal : LegalRules tree.rules
unfolding computing
legal = program-legal image tree (bytes-by image refl) transitive_closure_is refl

-- A result is the graph with an edge more, under any name f that is free.

module _ (G : Graph) (m : Matches link G) (f : ℕ) (fresh : Edge G f → ⊥) where
  abbrev u : ℕ
  u = m.g.node 0

  abbrev v : ℕ
  v = m.g.node 2

  abbrev put : ℕ → ℕ
  put zero = m.g.edge 0
  put (suc zero) = m.g.edge 1
  put (suc (suc k)) = f

  nodes : Union (StaysNode link G m.g) (λ j. (3 ≤ j) × (j < 3)) (Node G) (λ x. x) (λ x. x)
  nodes =
      record {
        from_a = λ x s. s.node;
        from_b = λ j b. absurd (omega (arith, b.0, b.1));
        apart_a = λ x y s t e. e;
        apart_b = λ x y s t e. e;
        apart = λ x j s b e. absurd (omega (arith, b.0, b.1));
        all = λ z k. inl (z, record { node = k; kept = λ j l n e. absurd (omega arith) }, refl);
      }

  put-edge : (k : ℕ) → k < 3 → Edge (add G f u v) (put k)
  put-edge zero l = old-edge G f u v _ (m.g.edges 0 (omega arith))
  put-edge (suc zero) l = old-edge G f u v _ (m.g.edges 1 (omega arith))
  put-edge (suc (suc k)) l = new-edge G f u v

  put-apart : (j k : ℕ) → j < 3 → k < 3 → put j ≡ put k → j ≡ k
  put-apart zero zero l n e = refl
  put-apart zero (suc zero) l n e = m.injective.edges 0 1 (omega arith) (omega arith) e
  put-apart zero (suc (suc k)) l n e = absurd (fresh (rw e at (m.g.edges 0 (omega arith))))
  put-apart (suc zero) zero l n e = m.injective.edges 1 0 (omega arith) (omega arith) e
  put-apart (suc zero) (suc zero) l n e = refl
  put-apart (suc zero) (suc (suc k)) l n e = absurd (fresh (rw e at (m.g.edges 1 (omega arith))))
  put-apart (suc (suc j)) zero l n e = absurd (fresh (rw (sym e) at (m.g.edges 0 (omega arith))))
  put-apart (suc (suc j)) (suc zero) l n e = absurd (fresh (rw (sym e) at (m.g.edges 1 (omega arith))))
  put-apart (suc (suc j)) (suc (suc k)) l n e = omega arith

  put-left : (k : ℕ) → k < 2 → put k ≡ m.g.edge k
  put-left zero l = refl
  put-left (suc zero) l = refl
  put-left (suc (suc k)) l = absurd (omega arith)

  edge-apart : (e k : ℕ) → StaysEdge link G m.g e → k < 3 → e ≡ put k → ⊥
  edge-apart e zero s l q = s.kept 0 (omega arith) (sym q)
  edge-apart e (suc zero) s l q = s.kept 1 (omega arith) (sym q)
  edge-apart e (suc (suc k)) s l q = fresh (rw q at s.edge)

  abbrev Found : ℕ → Type 0
  Found z = ((e : ℕ) × StaysEdge link G m.g e × (e ≡ z)) ⊎ ((k : ℕ) × (k < 3) × (put k ≡ z))

  found : (z : ℕ) → Edge (add G f u v) z → Found z
  found z k = at (which G f u v z k)
    where
      old : Edge G z → ((j : ℕ) × (j < 2) × (m.g.edge j ≡ z)) ⊎ ((j : ℕ) → j < 2 → m.g.edge j ≡ z → ⊥) → Found z
      old h (inl t) = inr (t.0, omega (arith, t.1), put-left t.0 t.1 ∙ t.2)
      old h (inr n) = inl (z, record { edge = h; kept = n }, refl)

      at : (z ≡ f) ⊎ Edge G z → Found z
      at (inl q) = inr (2, omega arith, sym q)
      at (inr h) = old h (value_of m.g.edge 2 z)

  edges : Union (StaysEdge link G m.g) (λ k. k < 3) (Edge (add G f u v)) (λ e. e) put
  edges =
      record {
        from_a = λ e s. old-edge G f u v e s.edge;
        from_b = put-edge;
        apart_a = λ e h s t q. q;
        apart_b = put-apart;
        apart = λ e k s l q. edge-apart e k s l q;
        all = found;
      }

  new-sources : (k : ℕ) → k < 3 → (add G f u v).source (put k) ≡ placed link m.g.node (λ x. x) (λ x. x) (edge_of link.right k).source
  unfolding choose
  new-sources zero l = old-source G f u v fresh _ (m.g.edges 0 (omega arith)) ∙ m.g.sources 0 (omega arith)
  new-sources (suc zero) l = old-source G f u v fresh _ (m.g.edges 1 (omega arith)) ∙ m.g.sources 1 (omega arith)
  new-sources (suc (suc zero)) l = new-source G f u v
  new-sources (suc (suc (suc k))) l = absurd (omega arith)

  new-targets : (k : ℕ) → k < 3 → (add G f u v).target (put k) ≡ placed link m.g.node (λ x. x) (λ x. x) (edge_of link.right k).target
  unfolding choose
  new-targets zero l = old-target G f u v fresh _ (m.g.edges 0 (omega arith)) ∙ m.g.targets 0 (omega arith)
  new-targets (suc zero) l = old-target G f u v fresh _ (m.g.edges 1 (omega arith)) ∙ m.g.targets 1 (omega arith)
  new-targets (suc (suc zero)) l = new-target G f u v
  new-targets (suc (suc (suc k))) l = absurd (omega arith)

  node-labels : (i : ℕ) → i < 3
      → NodeInstance m.α.of (node_of link.right i) (mark_from (G.node_label (m.g.node i)).mark (node_of link.right i).mark) (node_of link.right i).root (G.node_label (m.g.node i))
  unfolding choose
  node-labels i k = record { list = m.compatible.nodes i k; root = sym (m.compatible.roots i k); mark = mark i k }
    where
      mark : (i : ℕ) → i < 3 → (G.node_label (m.g.node i)).mark ≡ mark_from (G.node_label (m.g.node i)).mark (node_of link.right i).mark
      mark zero k = sym (m.compatible.node_marks 0 k (λ e. omega arith))
      mark (suc zero) k = sym (m.compatible.node_marks 1 k (λ e. omega arith))
      mark (suc (suc zero)) k = sym (m.compatible.node_marks 2 k (λ e. omega arith))
      mark (suc (suc (suc i))) k = absurd (omega arith)

  edge-labels : (k : ℕ) → k < 3 → EdgeInstance m.α.of (edge_of link.right k) ((add G f u v).edge_label (put k))
  edge-labels zero l =
      rw (old-label G f u v fresh _ (m.g.edges 0 (omega arith)))
      (record { list = m.compatible.edges 0 (omega arith); mark = sym (m.compatible.edge_marks 0 (omega arith) (λ e. omega arith)) })
  edge-labels (suc zero) l =
      rw (old-label G f u v fresh _ (m.g.edges 1 (omega arith)))
      (record { list = m.compatible.edges 1 (omega arith); mark = sym (m.compatible.edge_marks 1 (omega arith) (λ e. omega arith)) })
  edge-labels (suc (suc zero)) l = rw (new-label G f u v) (record { list = refl; mark = refl })
  edge-labels (suc (suc (suc k))) l = absurd (omega arith)

  constructed : Constructed link G m.g m.α.of (add G f u v)
  constructed =
      record {
        keep_node = λ x. x;
        new_node = λ x. x;
        keep_edge = λ e. e;
        new_edge = put;
        nodes = nodes;
        edges = edges;
        kept_sources = λ e s. old-source G f u v fresh e s.edge;
        kept_targets = λ e s. old-target G f u v fresh e s.edge;
        new_sources = new-sources;
        new_targets = new-targets;
        kept_labels = λ x s n. refl;
        interface_labels = node-labels;
        new_labels = λ j k l. absurd (omega arith);
        kept_edge_labels = λ e s. old-label G f u v fresh e s.edge;
        new_edge_labels = edge-labels;
      }

  linked : Applies link G (add G f u v)
  linked = record { match = m; constructed = constructed }

-- so every result is isomorphic to it
result-is : (G H : Graph) → HostGraph G → (a : Applies link G H) (f : ℕ) → (Edge G f → ⊥)
    → Iso (add G f (a.match.g.node 0) (a.match.g.node 2)) H
result-is G H host a f fresh =
    one-result link legal.0.holds G host a.match _ H (constructed G a.match f fresh) a.constructed

-- A match is one still where another pair has been linked.
module _ (G : Graph) (n : Matches link G) (f p q : ℕ) (fresh : Edge G f → ⊥) (apart : (n.g.node 0 ≡ p) × (n.g.node 2 ≡ q) → ⊥) where
  no_edge : (e : ℕ) → Edge (add G f p q) e → (add G f p q).source e ≡ n.g.node 0 → (add G f p q).target e ≡ n.g.node 2 → ⊥
  no_edge e k s t = at (which G f p q e k)
    where
      at : (e ≡ f) ⊎ Edge G e → ⊥
      at (inl r) =
          let a = sym s ∙ ap (add G f p q).source r ∙ new-source G f p q in
          let b = sym t ∙ ap (add G f p q).target r ∙ new-target G f p q in
          apart (a, b)
      at (inr h) = n.condition.0 (e, h, sym (old-source G f p q fresh e h) ∙ s, sym (old-target G f p q fresh e h) ∙ t)

  still : Matches link (add G f p q)
  still =
      record {
        g =
            record {
              node = n.g.node;
              edge = n.g.edge;
              nodes = n.g.nodes;
              edges = λ k l. old-edge G f p q _ (n.g.edges k l);
              sources = λ k l. old-source G f p q fresh _ (n.g.edges k l) ∙ n.g.sources k l;
              targets = λ k l. old-target G f p q fresh _ (n.g.edges k l) ∙ n.g.targets k l;
            };
        injective = record { nodes = n.injective.nodes; edges = n.injective.edges };
        α = n.α;
        compatible = record {
          nodes = n.compatible.nodes;
          edges = λ k l. rw (old-label G f p q fresh _ (n.g.edges k l)) (n.compatible.edges k l);
          node_marks = n.compatible.node_marks;
          edge_marks = λ k l. rw (old-label G f p q fresh _ (n.g.edges k l)) (n.compatible.edge_marks k l);
          roots = n.compatible.roots;
        };
        dangling = λ e j k h l t. absurd (omega arith);
        condition = (λ t. no_edge t.0 t.1 t.2 t.3, tt);
      }

-- so the other pair can be linked next
further : (G H : Graph) → HostGraph G → (a : Applies link G H) (n : Matches link G) (f f' : ℕ) → (Edge G f → ⊥) → (Edge G f' → ⊥) → (f ≡ f' → ⊥)
    → ((n.g.node 0 ≡ a.match.g.node 0) × (n.g.node 2 ≡ a.match.g.node 2) → ⊥)
    → Applies link H (add (add G f (a.match.g.node 0) (a.match.g.node 2)) f' (n.g.node 0) (n.g.node 2))
unfolding still
further G H host a n f f' fresh fresh' two apart =
    applies-iso link legal.0.holds once H _ _ host' (result-is G H host a f fresh) (iso-same _) (linked once next f' free)
  where
    once : Graph
    once = add G f (a.match.g.node 0) (a.match.g.node 2)

    host' : HostGraph once
    host' = applies-host link legal.0 G once host (linked G a.match f fresh)

    next : Matches link once
    next = still G n f (a.match.g.node 0) (a.match.g.node 2) fresh apart

    free : Edge once f' → ⊥
    free k = at (which G f (a.match.g.node 0) (a.match.g.node 2) f' k)
      where
        at : (f' ≡ f) ⊎ Edge G f' → ⊥
        at (inl q) = two (sym q)
        at (inr q) = fresh' q

-- Two results: of one pair they are isomorphic, and of two pairs both can be linked.
module _ (G H H' : Graph) (host : HostGraph G) (a : Applies link G H) (b : Applies link G H') where
  -- two free names
  abbrev f : ℕ
  f = host.most

  abbrev f' : ℕ
  f' = suc host.most

  free : Edge G f → ⊥
  free k = let h = host.edges_finite _ k in omega arith

  free' : Edge G f' → ⊥
  free' k = let h = host.edges_finite _ k in omega arith

  abbrev p : Matches link G
  p = a.match

  abbrev q : Matches link G
  q = b.match

  abbrev Joined : Type 0
  Joined = Iso H H' ⊎ ((K K' : Graph) × Applied (link ∷ []) H K × Applied (link ∷ []) H' K' × Iso K K')

  one_pair : p.g.node 0 ≡ q.g.node 0 → p.g.node 2 ≡ q.g.node 2 → Iso H H'
  one_pair e e' =
      let once : Graph = add G f (p.g.node 0) (p.g.node 2) in
      let host' : HostGraph once = applies-host link legal.0 G once host (linked G p f free) in
      let this : Iso once H = result-is G H host a f free in
      let that : Iso once H' = rw (e, e') (result-is G H' host b f free) in
      iso-trans H once H' (iso-back once H host' this) that

  two_pairs : ((p.g.node 0 ≡ q.g.node 0) × (p.g.node 2 ≡ q.g.node 2) → ⊥) → Joined
  two_pairs apart =
      let this = further G H host a q f f' free free' (λ e. omega arith) (λ t. apart (sym t.0, sym t.1)) in
      let that = further G H' host b p f' f free' free (λ e. omega arith) apart in
      inr (
        _,
        _,
        record { place = 0; listed = omega arith; applies = this },
        record { place = 0; listed = omega arith; applies = that },
        either_order G f (p.g.node 0) (p.g.node 2) f' (q.g.node 0) (q.g.node 2) (λ e. omega arith),
      )

  joined : Joined
  joined = at (ℕ_discrete (p.g.node 0) (q.g.node 0)) (ℕ_discrete (p.g.node 2) (q.g.node 2))
    where
      at : Dec (p.g.node 0 ≡ q.g.node 0) → Dec (p.g.node 2 ≡ q.g.node 2) → Joined
      at (yes e) (yes e') = inl (one_pair e e')
      at (yes e) (no n) = two_pairs (λ t. n t.1)
      at (no n) d = two_pairs (λ t. n t.0)

diamond : Diamond (link ∷ [])
diamond G H H' host a b = joined G H H' host (sole link G H a) (sole link G H' b)

pub transitive_closure_only : OneOutcome image tree Always
unfolding com_seq
transitive_closure_only =
    decided-outcome image tree transitive_closure_is Always (λ G host inv u. diamond-decided (link ∷ []) u diamond G host)
