-- The published program is-discrete on all of its input: nodes unmarked, none a root, labelled at will. Which node goes decides which
-- labels are left, so that results of del need not be isomorphic; but they are but for the labels of nodes, and del and node do not
-- look at these. So the program can't both fail and have a result. A result has no nodes, so that two are isomorphic after all.
-- Rests on IsDiscrete, Existence and Endings.
use Rattle.std.specs.Prelude.{◌≡◌, refl, true, false, List, [], ◌∷◌, ℕ, zero, suc, ◌<◌, ◌≤◌, length}
use Rattle.std.proofs.Common.{sym, ◌∙◌, ap, inl, inr, append-nil, arith}
use Rattle.meaning.specs.Tags.{list_type}
use Rattle.meaning.specs.Image.{RuleGraph, Rule}
use Rattle.meaning.specs.References.{is_int}
use Rattle.laws.specs.Values.{LegalRule}
use Rattle.laws.specs.LegalCommands.{legal-rule}
use Rattle.published.specs.Graphs.{NodeLabel, Graph, Node, Edge, HostGraph, Iso}
use Rattle.published.specs.RuleApplication.{node_of, Premorphism, Incident, Instance, StaysNode, StaysEdge, Constructed, Matches, Applies, Applied}
use Rattle.published.proofs.Isomorphism.{iso-same, iso-trans, source-back, target-back, iso-back, applies-iso}
use Rattle.published.proofs.SameMatch.{union-same}
use Rattle.published.proofs.HostResult.{applies-host}
use Rattle.published.proofs.Existence.{applies_somewhere, set-fails-exactly}
use Rattle.published.specs.Answers.{Alike}
use Rattle.published.specs.Alike.{Calls, Same, same_graph, same_fail}
use Rattle.published.specs.Semantics.{call, Outcome, graph, fails, ⟦◌⟧, com_seq, in_order, followed}
use Rattle.published.specs.Endings.{checked}
use Rattle.published.specs.Steady.{SameOutcome, Decided, Lockstep}
use Rattle.published.proofs.Steady.{like-decided, sole}
use Rattle.published.specs.Families.Symmetric.{Lone}
use Rattle.published.proofs.Families.Unchanged.{unchanged_result}
use Rattle.published.specs.OnlyOutcome.{OneOutcome}
use Rattle.published.proofs.OnlyOutcome.{decided-outcome}
use Rattle.published.specs.Instances.IsDiscrete.{image, del, node, tree, LoneAlike}
use Rattle.published.proofs.Instances.IsDiscrete.{is_discrete_is, legal, was, del-one}
use Rattle.published.specs.Instances.IsDiscreteLabelled.{bare_label, bare, Plain, SameShape, one}

bare-host : (G : Graph) → HostGraph G → HostGraph (bare G)
bare-host G host =
    record {
      sources = host.sources;
      targets = host.targets;
      most = host.most;
      nodes_finite = host.nodes_finite;
      edges_finite = host.edges_finite;
      node_marks = host.node_marks;
      edge_marks = host.edge_marks;
      roots = host.roots;
    }

bare-iso : (G H : Graph) → Iso G H → Iso (bare G) (bare H)
bare-iso G H i =
    record {
      node = i.node;
      edge = i.edge;
      node_back = i.node_back;
      edge_back = i.edge_back;
      nodes = i.nodes;
      edges = i.edges;
      nodes_back = i.nodes_back;
      edges_back = i.edges_back;
      node_there = i.node_there;
      edge_there = i.edge_there;
      node_here = i.node_here;
      edge_here = i.edge_here;
      sources = i.sources;
      targets = i.targets;
      node_labels = λ v k. ap bare_label (i.node_labels v k);
      edge_labels = i.edge_labels;
    }

shape_back : (G H : Graph) → SameShape G H → SameShape H G
shape_back G H s =
    record {
      this = s.that;
      that = s.this;
      plain = s.plain';
      plain' = s.plain;
      iso = iso-back (bare G) (bare H) (bare-host G s.this) s.iso;
    }

shape_same : (G : Graph) → HostGraph G → Plain G → SameShape G G
shape_same G host plain = record { this = host; that = host; plain = plain; plain' = plain; iso = iso-same (bare G) }

-- all nodes of the bare graph are labelled alike
plain-alike : (G : Graph) → Plain G → LoneAlike (bare G)
plain-alike G plain v w k l a b =
    let e : (G.node_label v).mark ≡ (G.node_label w).mark = plain.marks v k ∙ sym (plain.marks w l) in
    let f : (G.node_label v).root ≡ (G.node_label w).root = plain.roots v k ∙ sym (plain.roots w l) in
    λ d. record { mark = e d; root = f d; list = [] }

one-mark : (j : ℕ) → j < 1 → (node_of one j).mark ≡ 0
one-mark zero k = refl
one-mark (suc j) k = absurd (omega arith)

one-root : (j : ℕ) → j < 1 → (node_of one j).root ≡ 0
one-root zero k = refl
one-root (suc j) k = absurd (omega arith)

one_label : (l : List ℕ) (j : ℕ) → j < 1 → Instance (λ v. l) (node_of one j).label l
one_label l zero k = (l, [], refl, refl, sym (append-nil l))
one_label l (suc j) k = absurd (omega arith)

module _ (right : RuleGraph) (interface : ℕ) where
  abbrev rule : Rule
  rule = record { variables = list_type ∷ []; left = one; right = right; interface = interface; tests = []; preserving = false }

  no-int : (l : List ℕ) (v : ℕ) → is_int rule v ≡ true → length l ≡ 1
  no-int l zero e = let z : ◌≡◌ {A = ℕ} 0 1 = cc in absurd (omega arith)
  no-int l (suc v) e = let z : ◌≡◌ {A = ℕ} 0 1 = cc in absurd (omega arith)

  -- an unmarked node that is no root is a match, unless it is to go and an edge touches it
  match-at : (G : Graph) (v : ℕ) → Node G v → (G.node_label v).mark ≡ 0 → (G.node_label v).root ≡ 0 → (interface ≤ 0 → Lone G v) → Matches rule G
  match-at G v k mark root lone =
      record {
        g =
            record {
              node = λ j. v;
              edge = λ k. 0;
              nodes = λ j l. k;
              edges = λ k l. absurd (omega arith);
              sources = λ k l. absurd (omega arith);
              targets = λ k l. absurd (omega arith);
            };
        injective = record { nodes = λ j k l n e. omega arith; edges = λ j k l n e. absurd (omega arith) };
        α = record { of = λ u. (G.node_label v).list; ints = no-int (G.node_label v).list };
        compatible = record {
          nodes = one_label (G.node_label v).list;
          edges = λ k l. absurd (omega arith);
          node_marks = λ j l n. one-mark j l ∙ sym mark;
          edge_marks = λ k l n. absurd (omega arith);
          roots = λ j l. one-root j l ∙ sym root;
        };
        dangling = λ e j l h n q. absurd (lone (omega arith) e l q);
        condition = tt;
      }

  -- so the rule is applied to a graph of the same shape too
  goes_over : LegalRule rule → (G G' : Graph) → SameShape G G' → Matches rule G → (H : Graph) × Applies rule G' H
  goes_over legal G G' s m =
      let k = s.iso.nodes _ (m.g.nodes 0 (omega arith)) in
      applies_somewhere rule legal.holds G' (match-at G' _ k (s.plain'.marks _ k) (s.plain'.roots _ k) lone)
    where
      here : s.iso.node_back (s.iso.node (m.g.node 0)) ≡ m.g.node 0
      here = s.iso.node_there _ (m.g.nodes 0 (omega arith))

      touches : (e : ℕ) → Edge G' e → Incident G' e (s.iso.node (m.g.node 0)) → Incident G (s.iso.edge_back e) (m.g.node 0)
      touches e k (inl q) = inl (source-back (bare G) (bare G') (bare-host G s.this) s.iso e k ∙ ap s.iso.node_back q ∙ here)
      touches e k (inr q) = inr (target-back (bare G) (bare G') (bare-host G s.this) s.iso e k ∙ ap s.iso.node_back q ∙ here)

      lone : interface ≤ 0 → Lone G' (s.iso.node (m.g.node 0))
      lone h e k q =
          let t = m.dangling (s.iso.edge_back e) 0 (s.iso.edges_back e k) h (omega arith) (touches e k q) in
          omega (arith, t.1)

-- del: the bare graph without one of its nodes.

module _ (G H : Graph) (a : Applies del G H) where
  abbrev g : Premorphism one (bare G)
  g =
      record {
        node = a.match.g.node;
        edge = a.match.g.edge;
        nodes = a.match.g.nodes;
        edges = a.match.g.edges;
        sources = a.match.g.sources;
        targets = a.match.g.targets;
      }

  bare-match : Matches del (bare G)
  bare-match =
      let m = a.match in
      record {
        g = g;
        injective = record { nodes = m.injective.nodes; edges = m.injective.edges };
        α = record { of = λ v. []; ints = no-int del.right 0 [] };
        compatible = record {
          nodes = one_label [];
          edges = λ k l. absurd (omega arith);
          node_marks = m.compatible.node_marks;
          edge_marks = m.compatible.edge_marks;
          roots = m.compatible.roots;
        };
        dangling = m.dangling;
        condition = tt;
      }

  stays : (v : ℕ) → StaysNode del (bare G) g v → StaysNode del G a.match.g v
  stays v s = record { node = s.node; kept = s.kept }

  edge_stays : (e : ℕ) → StaysEdge del (bare G) g e → StaysEdge del G a.match.g e
  edge_stays e s = record { edge = s.edge; kept = s.kept }

  bare-constructed : Constructed del (bare G) g (λ v. []) (bare H)
  bare-constructed =
      let c = a.constructed in
      record {
        keep_node = c.keep_node;
        new_node = c.new_node;
        keep_edge = c.keep_edge;
        new_edge = c.new_edge;
        nodes =
            union-same (StaysNode del G a.match.g) (StaysNode del (bare G) g) _ (Node H) c.keep_node c.new_node
            (λ v s. record { node = s.node; kept = s.kept }) stays c.nodes;
        edges =
            union-same (StaysEdge del G a.match.g) (StaysEdge del (bare G) g) _ (Edge H) c.keep_edge c.new_edge
            (λ e s. record { edge = s.edge; kept = s.kept }) edge_stays c.edges;
        kept_sources = λ e s. c.kept_sources e (edge_stays e s);
        kept_targets = λ e s. c.kept_targets e (edge_stays e s);
        new_sources = λ k l. absurd (omega arith);
        new_targets = λ k l. absurd (omega arith);
        kept_labels = λ v s f. ap bare_label (c.kept_labels v (stays v s) f);
        interface_labels = λ i k. absurd (omega arith);
        new_labels = λ j k l. absurd (omega arith);
        kept_edge_labels = λ e s. c.kept_edge_labels e (edge_stays e s);
        new_edge_labels = λ k l. absurd (omega arith);
      }

  bare-del : Applies del (bare G) (bare H)
  unfolding bare-match
  bare-del = record { match = bare-match; constructed = bare-constructed }

  -- the other nodes keep their marks
  del-plain : Plain G → Plain H
  del-plain plain =
      record {
        marks = λ z k. let t = was G H a z k in ap (λ (l : NodeLabel). l.mark) t.2 ∙ plain.marks t.0 t.1;
        roots = λ z k. let t = was G H a z k in ap (λ (l : NodeLabel). l.root) t.2 ∙ plain.roots t.0 t.1;
      }

del_shape : (G G' H H' : Graph) → SameShape G G' → Applies del G H → Applies del G' H' → SameShape H H'
del_shape G G' H H' s a b =
    let over =
    applies-iso del legal.0.holds (bare G) (bare G') (bare H) (bare H) (bare-host G s.this) s.iso (iso-same (bare H)) (bare-del G H a) in
    record {
      this = applies-host del legal.0 G H s.this a;
      that = applies-host del legal.0 G' H' s.that b;
      plain = del-plain G H a s.plain;
      plain' = del-plain G' H' b s.plain';
      iso = del-one (bare G') (bare H) (bare H') (bare-host G' s.that) (plain-alike G' s.plain') over (bare-del G' H' b);
    }

-- node: the graph itself.

iso-plain : (G H : Graph) → Iso G H → Plain G → Plain H
iso-plain G H i plain =
    record {
      marks = λ z k. ap (λ (l : NodeLabel). l.mark) (label z k) ∙ plain.marks _ (i.nodes_back z k);
      roots = λ z k. ap (λ (l : NodeLabel). l.root) (label z k) ∙ plain.roots _ (i.nodes_back z k);
    }
  where
    label : (z : ℕ) → Node H z → H.node_label z ≡ G.node_label (i.node_back z)
    label z k = ap H.node_label (sym (i.node_here z k)) ∙ i.node_labels _ (i.nodes_back z k)

node-iso : (G H : Graph) → HostGraph G → Applies node G H → Iso G H
node-iso G H host a =
    unchanged_result node legal.1.0 (record { same = refl; whole = refl }) G a.match host H a.constructed

node_shape : (G G' H H' : Graph) → SameShape G G' → Applies node G H → Applies node G' H' → SameShape H H'
node_shape G G' H H' s a b =
    let i = node-iso G H s.this a in
    let j = node-iso G' H' s.that b in
    let back = bare-iso H G (iso-back G H s.this i) in
    record {
      this = applies-host node legal.1.0 G H s.this a;
      that = applies-host node legal.1.0 G' H' s.that b;
      plain = iso-plain G H i s.plain;
      plain' = iso-plain G' H' j s.plain';
      iso = iso-trans (bare H) (bare G) (bare H') back (iso-trans (bare G) (bare G') (bare H') s.iso (bare-iso G' H' j));
    }

-- Both go in step.

in_step : (right : RuleGraph) (interface : ℕ) → LegalRule (rule right interface)
    → ((G G' H H' : Graph) → SameShape G G' → Applies (rule right interface) G H → Applies (rule right interface) G' H' → SameShape H H')
    → Lockstep SameShape (rule right interface ∷ [])
in_step right interface legal shape =
    record {
      carry = λ G G' H s a.
          let x = sole (rule right interface) G H a in
          let t = goes_over right interface legal G G' s x.match in
          (t.0, shape G G' H t.0 s x t.1, record { place = 0; listed = omega arith; applies = t.1 });
      unique = λ G G' H H' s a b. shape G G' H H' s (sole (rule right interface) G H a) (sole (rule right interface) G' H' b);
    }

lockstep : Calls (Lockstep SameShape) (com_seq tree.rules tree.main)
unfolding com_seq in_order followed
lockstep = (in_step del.right 0 legal.0 del_shape, (in_step node.right 1 legal.1.0 node_shape, tt, tt))

shape_decided : (G : Graph) → HostGraph G → Plain G → Decided (com_seq tree.rules tree.main) G SameShape
shape_decided G host plain = like-decided SameShape shape_back (com_seq tree.rules tree.main) lockstep G (shape_same G host plain)

-- A result has no nodes, because the check would have found one; so two results are isomorphic.

no-nodes : (G K : Graph) → Plain K → ⟦◌⟧ Graph Applied (com_seq tree.rules tree.main) G (graph K) → (v : ℕ) → Node K v → ⊥
unfolding com_seq in_order followed
no-nodes G K plain p v k =
    let f = checked Graph Applied _ (call (node ∷ [])) G K p in
    let m = match-at node.right 1 K v k (plain.marks v k) (plain.roots v k) (λ h. absurd (omega arith)) in
    (set-fails-exactly (node ∷ []) (λ i h. (legal-rule (node ∷ []) (legal.1.0, tt) i).holds) K).0 f 0 (omega arith) m

empty-iso : (G H : Graph) → HostGraph G → HostGraph H → ((v : ℕ) → Node G v → ⊥) → ((v : ℕ) → Node H v → ⊥) → Iso G H
empty-iso G H host host' none none' =
    record {
      node = λ v. v;
      edge = λ e. e;
      node_back = λ v. v;
      edge_back = λ e. e;
      nodes = λ v k. absurd (none v k);
      edges = λ e k. absurd (none _ (host.sources e k));
      nodes_back = λ v k. absurd (none' v k);
      edges_back = λ e k. absurd (none' _ (host'.sources e k));
      node_there = λ v k. refl;
      edge_there = λ e k. refl;
      node_here = λ v k. refl;
      edge_here = λ e k. refl;
      sources = λ e k. absurd (none _ (host.sources e k));
      targets = λ e k. absurd (none _ (host.sources e k));
      node_labels = λ v k. absurd (none v k);
      edge_labels = λ e k. absurd (none _ (host.sources e k));
    }

alike : (G L : Graph) (X : Outcome Graph) → ⟦◌⟧ Graph Applied (com_seq tree.rules tree.main) G X → Same Graph SameShape (graph L) X
    → SameOutcome (graph L) X
alike G L (graph K) p (same_graph s) =
    let none = no-nodes G K s.plain' p in
    same_graph
    (record {
      this = s.this;
      that = s.that;
      iso = empty-iso L K s.this s.that (λ v k. none (s.iso.node v) (s.iso.nodes v k)) none;
    })
alike G L fails p x = elim x [ ]
alike G L Rattle.published.specs.Semantics.bottom p x = elim x [ ]

failed : (X : Outcome Graph) → Same Graph SameShape fails X → SameOutcome fails X
failed fails same_fail = same_fail
failed (graph _) x = elim x [ ]
failed Rattle.published.specs.Semantics.bottom x = elim x [ ]

decided : (G : Graph) → HostGraph G → Plain G → Decided (com_seq tree.rules tree.main) G Alike
decided G host plain =
    record {
      result = λ H p X q. alike G H X q ((shape_decided G host plain).result H p X q);
      fail = λ p X q. failed X ((shape_decided G host plain).fail p X q);
    }

pub is_discrete_only : OneOutcome image tree Plain
is_discrete_only = decided-outcome image tree is_discrete_is Plain (λ G host plain u. decided G host plain)
