-- Chains, for is-tree: at most one root, at most one edge out of each node, and at most one start, a grey node that no edge
-- reaches; none where there is a root. A rule whose right side has no grey node makes no start.
-- Rests on OneRoot, OneOut and Whence.
use Rattle.std.specs.Prelude.{◌≡◌, ◌⊎◌, ℕ, ◌<◌, length}
use Rattle.std.proofs.Common.{sym, ◌∙◌, ap, inl, inr}
use Rattle.meaning.specs.Image.{Rule}
use Rattle.laws.specs.References.{ends}
use Rattle.laws.specs.Values.{LegalRule}
use Rattle.published.specs.Graphs.{NodeLabel, Graph, Node, HostGraph, Iso}
use Rattle.published.specs.RuleApplication.{Arrives, StaysEdge, Applies}
use Rattle.published.proofs.OneResult.{value_of}
use Rattle.published.specs.Families.OneRoot.{OneRoot}
use Rattle.published.proofs.Families.OneRoot.{one-root-iso}
use Rattle.published.specs.Families.OneOut.{OneOut}
use Rattle.published.proofs.Families.OneOut.{one-out-iso}
use Rattle.published.specs.Families.Whence.{Matched, Untouched}
use Rattle.published.proofs.Families.Whence.{marked-whence}
use Rattle.published.specs.Instances.Chains.{Start, Chain, NoGrey}

-- Isomorphic graphs.

module _ (G H : Graph) (host : HostGraph G) (i : Iso G H) where
  label-back : (z : ℕ) → Node H z → G.node_label (i.node_back z) ≡ H.node_label z
  label-back z k = sym (i.node_labels _ (i.nodes_back z k)) ∙ ap H.node_label (i.node_here z k)

  start_back : (z : ℕ) → Start H z → Start G (i.node_back z)
  start_back z s =
      record {
        node = i.nodes_back z s.node;
        grey = ap (λ (l : NodeLabel). l.mark) (label-back z s.node) ∙ s.grey;
        first = λ e k. s.first (i.edge e) (
          i.edges e k.0,
          i.targets e k.0 ∙ ap i.node k.1 ∙ i.node_here z s.node,
        );
      }

  pub chain-iso : Chain G → Chain H
  chain-iso c =
      record {
        one_root = one-root-iso G H i c.one_root;
        one_out = one-out-iso G H host i c.one_out;
        one_start = λ v w s t.
            sym (i.node_here v s.node) ∙ ap i.node (c.one_start _ _ (start_back v s) (start_back w t)) ∙ i.node_here w t.node;
        no_start = λ v w s k e.
            c.no_start _ _ (start_back v s) (i.nodes_back w k) (ap (λ (l : NodeLabel). l.root) (label-back w k) ∙ e);
      }

module _ (r : Rule) (legal : LegalRule r) (none : NoGrey r) (G H : Graph) (host : HostGraph G) (a : Applies r G H) where
  -- a start of the result was one, and is not matched
  start-was : (z : ℕ) → Start H z → (v : ℕ) × Start G v × Untouched r G H a v z
  start-was z s = (u.0, record { node = u.1.stays.node; grey = grey; first = first }, u.1)
    where
      u : (v : ℕ) × Untouched r G H a v z
      u = marked-whence r G H a legal.holds 4 none z s.node s.grey

      grey : (G.node_label u.0).mark ≡ 4
      grey = ap (λ (l : NodeLabel). l.mark) (sym u.1.label) ∙ s.grey

      first : (e : ℕ) → Arrives G u.0 e → ⊥
      first e k = at (value_of a.match.g.edge (length r.left.edges) e)
        where
          at : ((j : ℕ) × (j < length r.left.edges) × (a.match.g.edge j ≡ e))
              ⊎ ((j : ℕ) → j < length r.left.edges → a.match.g.edge j ≡ e → ⊥) → ⊥
          at (inl t) =
              let target = sym (a.match.g.targets t.0 t.1) ∙ ap G.target t.2 ∙ k.1 in
              u.1.free (_, (ends r legal.holds t.0 t.1).1, target)
          at (inr f) =
              let o : StaysEdge r G a.match.g e = record { edge = k.0; kept = f } in
              let target = a.constructed.kept_targets e o ∙ ap a.constructed.keep_node k.1 ∙ u.1.here in
              s.first (a.constructed.keep_edge e) (a.constructed.edges.from_a e o, target)

  -- so the invariant is kept, if a start has been matched or there was a root
  pub chain-kept : OneRoot H → OneOut H → Chain G
      → ((v : ℕ) → Start G v → Matched r G H a v ⊎ ((w : ℕ) × Node G w × ((G.node_label w).root ≡ 1))) → Chain H
  chain-kept root out c all =
      record {
        one_root = root;
        one_out = out;
        one_start = λ z y s t. absurd (no_start_lem z s);
        no_start = λ z w s k e. no_start_lem z s;
      }
    where
      no_start_lem : (z : ℕ) → Start H z → ⊥
      no_start_lem z s = let t = start-was z s in at t.0 t.1 t.2 (all t.0 t.1)
        where
          at : (v : ℕ) → Start G v → Untouched r G H a v z → Matched r G H a v ⊎ ((w : ℕ) × Node G w × ((G.node_label w).root ≡ 1)) → ⊥
          at v s u (inl t) = u.free t
          at v s u (inr t) = c.no_start v t.0 s t.1 t.2
