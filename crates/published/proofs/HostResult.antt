-- The result of a rule application to a host graph is a host graph: its edges run between its nodes, it is finite, and its
-- labels are host labels. It holds of a rule that has the form and whose references hold. Rests on RuleApplication and OneResult.
use Rattle.std.specs.Prelude.{ℕ, zero, suc, ◌+◌, ◌<◌, ◌≤◌, max, ◌≡◌, refl, ◌⊎◌, Bool, true, false, eqb, length}
use Rattle.std.proofs.Common.{ap, inl, inr, arith}
use Rattle.std.proofs.Math.Decide.{dec_lt}
use Rattle.meaning.specs.Layout.{is_node_mark}
use Rattle.meaning.specs.Image.{Rule}
use Rattle.meaning.specs.Tags.{any_mark}
use Rattle.meaning.specs.References.{rule_holds}
use Rattle.meaning.specs.Laws.Tests.{choose_lt, choose_le, either-not}
use Rattle.meaning.specs.Laws.Every.{Every-at}
use Rattle.meaning.specs.Laws.Interface.{interface-left}
use Rattle.laws.specs.Values.{LegalRule, right-marked, new-marked, node-mark, choose_most}
use Rattle.published.specs.Graphs.{NodeLabel, Graph, Node, Edge, HostGraph}
use Rattle.published.specs.RuleApplication.{node_of, edge_of, StaysNode, StaysEdge, NodeInstance, root_from, placed, Constructed, Matches, Applies}
use Rattle.published.proofs.Application.Values.{node-formed, edge-formed}
use Rattle.published.proofs.Isomorphism.{interface-stays}
use Rattle.published.proofs.OneResult.{on-union, value_of, source_stays, target-stays, right_end}
use Rattle.published.specs.HostResult.{HostNodeLabel, HostEdgeLabel}

-- Finitely many.

-- above the values of f below n
top : (ℕ → ℕ) → ℕ → ℕ
top f zero = zero
top f (suc n) = max (suc (f n)) (top f n)

top_lt : (f : ℕ → ℕ) (n x : ℕ) → x < n → f x < top f n
unfolding top
top_lt f zero x h = absurd (omega arith)
top_lt f (suc n) x h = at (dec_lt x n) (top_lt f n x)
  where
    at : Dec (x < n) → (x < n → f x < top f n) → f x < max (suc (f n)) (top f n)
    at (yes k) ih = let l = ih k in omega arith
    at (no k) ih = let e : x ≡ n = omega arith in let q = ap f e in omega arith

root-most : (preserving : Bool) (left before right : ℕ) → right ≤ 1 → before ≤ 1 → root_from preserving left before right ≤ 1
root-most false left before right h k = h
root-most true left before right h k = choose_most _ before right 1 k h

module _ (r : Rule) (rule : LegalRule r) (G : Graph) (host : HostGraph G) (m : Matches r G) (H : Graph)
    (c : Constructed r G m.g m.α.of H)
  where
    holds : rule_holds r ≡ true
    holds = rule.holds

    on-nodes : (P : ℕ → Type 0) → ((v : ℕ) → StaysNode r G m.g v → P (c.keep_node v))
        → ((j : ℕ) → (r.interface ≤ j) × (j < length r.right.nodes) → P (c.new_node j)) → (v : ℕ) → Node H v → P v
    on-nodes = on-union (StaysNode r G m.g) _ (Node H) c.keep_node c.new_node c.nodes

    on-edges : (P : ℕ → Type 0) → ((e : ℕ) → StaysEdge r G m.g e → P (c.keep_edge e))
        → ((k : ℕ) → k < length r.right.edges → P (c.new_edge k)) → (e : ℕ) → Edge H e → P e
    on-edges = on-union (StaysEdge r G m.g) _ (Edge H) c.keep_edge c.new_edge c.edges

    -- Ends.

    placed-node : (j : ℕ) → j < length r.right.nodes → Node H (placed r m.g.node c.keep_node c.new_node j)
    placed-node j l = at (dec_lt j r.interface)
      where
        at : Dec (j < r.interface) → Node H (placed r m.g.node c.keep_node c.new_node j)
        at (yes k) =
            rw (choose_lt j r.interface (c.keep_node (m.g.node j)) (c.new_node j) k)
            (c.nodes.from_a _ (interface-stays r holds G m.g m.injective j k))
        at (no k) =
            rw (choose_le j r.interface (c.keep_node (m.g.node j)) (c.new_node j) (omega arith)) (c.nodes.from_b j (omega arith, l))

    source-node : (e : ℕ) → Edge H e → Node H (H.source e)
    source-node =
        on-edges (λ e. Node H (H.source e))
        (λ e s. rw (c.kept_sources e s) (c.nodes.from_a _ (source_stays r holds G host m e s)))
        (λ k l. rw (c.new_sources k l) (placed-node _ (right_end r holds G host m k l).0))

    target-node : (e : ℕ) → Edge H e → Node H (H.target e)
    target-node =
        on-edges (λ e. Node H (H.target e))
        (λ e s. rw (c.kept_targets e s) (c.nodes.from_a _ (target-stays r holds G host m e s)))
        (λ k l. rw (c.new_targets k l) (placed-node _ (right_end r holds G host m k l).1))

    -- Labels.

    node-host : (j mark root : ℕ) (l : NodeLabel) → is_node_mark mark ≡ true → root ≤ 1 → NodeInstance m.α.of (node_of r.right j) mark root l
        → HostNodeLabel l
    node-host j mark root l h t i =
        record {
          mark = rw i.mark h;
          root = rw i.root t;
        }

    node-label : (v : ℕ) → Node H v → HostNodeLabel (H.node_label v)
    node-label =
        on-nodes (λ v. HostNodeLabel (H.node_label v)) (λ v s. kept v s (value_of m.g.node r.interface v))
        (λ j n.
        node-host j _ _ _ (either-not _ _ (node-formed r rule j).mark (new-marked r holds j n.0 n.1 _)) (node-formed r rule j).root
        (c.new_labels j n.0 n.1))
      where
        kept : (v : ℕ) → StaysNode r G m.g v
            → ((i : ℕ) × (i < r.interface) × (m.g.node i ≡ v)) ⊎ ((i : ℕ) → i < r.interface → m.g.node i ≡ v → ⊥)
            → HostNodeLabel (H.node_label (c.keep_node v))
        kept v s (inl t) =
            let a = interface-left r holds in
            rw (← t.2)
            (node-host t.0 _ _ _
            (node-mark _ _ (node-formed r rule t.0).mark (host.node_marks _ (m.g.nodes t.0 (omega (arith, t.1)))))
            (root-most r.preserving _ _ _ (node-formed r rule t.0).root (host.roots _ (m.g.nodes t.0 (omega (arith, t.1)))))
            (c.interface_labels t.0 t.1))
        kept v s (inr f) =
            rw (c.kept_labels v s f)
            (record { mark = host.node_marks v s.node; root = host.roots v s.node })

    edge-label : (e : ℕ) → Edge H e → HostEdgeLabel (H.edge_label e)
    edge-label =
        on-edges (λ e. HostEdgeLabel (H.edge_label e))
        (λ e s. rw (c.kept_edge_labels e s) (record { mark = host.edge_marks e s.edge }))
        (λ k l.
        let i = c.new_edge_labels k l in
        record {
          mark = rw i.mark (either-not _ _ (edge-formed r rule k).mark (unmarked k));
        })
      where
        unmarked : (k : ℕ) → eqb (edge_of r.right k).mark any_mark ≡ false
        unmarked k = Every-at (λ e. eqb e.mark any_mark ≡ false) _ refl r.right.edges (right-marked r holds) k

    -- Finitely many.

    most : ℕ
    most =
        top c.keep_node host.most + top c.new_node (length r.right.nodes) + top c.keep_edge host.most
        + top c.new_edge (length r.right.edges)

    pub result-host : HostGraph H
    unfolding most
    result-host =
        record {
          sources = source-node;
          targets = target-node;
          most = most;
          nodes_finite =
              on-nodes (λ v. v < most) (λ v s. omega (arith, top_lt c.keep_node host.most v (host.nodes_finite v s.node)))
              (λ j n. omega (arith, top_lt c.new_node (length r.right.nodes) j n.1));
          edges_finite =
              on-edges (λ e. e < most) (λ e s. omega (arith, top_lt c.keep_edge host.most e (host.edges_finite e s.edge)))
              (λ k l. omega (arith, top_lt c.new_edge (length r.right.edges) k l));
          node_marks = λ v h. (node-label v h).mark;
          edge_marks = λ e h. (edge-label e h).mark;
          roots = λ v h. (node-label v h).root;
        }

-- what a rule gives from a host graph is a host graph
pub applies-host : (r : Rule) → LegalRule r → (G H : Graph) → HostGraph G → Applies r G H → HostGraph H
applies-host r rule G H host a = result-host r rule G host a.match H a.constructed
