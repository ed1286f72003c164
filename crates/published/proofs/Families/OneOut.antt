-- The invariant 'at most one edge leaves each node'. A rule keeps it if each of its right edges stands for a left one with the same
-- source, which the rule keeps. Two matches that agree on the source of a left edge agree on the edge. Rests on Isomorphism and
-- OneResult.
use Rattle.std.specs.Prelude.{◌≡◌, refl, ◌⊎◌, ℕ, ◌<◌, ◌≤◌, length}
use Rattle.std.proofs.Common.{sym, ◌∙◌, ap, subst, inl, inr, arith}
use Rattle.meaning.specs.Layout.{Host}
use Rattle.meaning.specs.Image.{Rule}
use Rattle.meaning.specs.Laws.Tests.{choose_lt}
use Rattle.meaning.specs.Laws.Slots.{live_at_lt}
use Rattle.laws.specs.Values.{LegalRule}
use Rattle.published.specs.Graphs.{Graph, Edge, HostGraph, graph_of, Iso}
use Rattle.published.specs.RuleApplication.{edge_of, StaysNode, StaysEdge, Matches, Applies}
use Rattle.published.proofs.Isomorphism.{iso-back, interface-stays}
use Rattle.published.proofs.OneResult.{source_stays}
use Rattle.published.specs.Families.OneOut.{OneOut, EdgesKept}

-- isomorphic graphs have it or have it not
pub one-out-iso : (G H : Graph) → HostGraph G → Iso G H → OneOut G → OneOut H
one-out-iso G H host i inv e f k l q =
    let j = iso-back G H host i in
    let same = inv _ _ (j.edges e k) (j.edges f l) (j.sources e k ∙ ap j.node q ∙ sym (j.sources f l)) in
    sym (j.edge_there e k) ∙ ap j.edge_back same ∙ j.edge_there f l

-- a table of one edge has it
pub one-out-held : (h : Host) → length h.edges ≤ 1 → OneOut (graph_of h)
one-out-held h few e f k l q =
    let a = live_at_lt h.edges e k in
    let b = live_at_lt h.edges f l in
    omega arith

-- two matches that agree on a left edge's source agree on the edge
pub leaving-agrees : (r : Rule) (G : Graph) → OneOut G → (m n : Matches r G) (k : ℕ) → k < length r.left.edges
    → m.g.node (edge_of r.left k).source ≡ n.g.node (edge_of r.left k).source → m.g.edge k ≡ n.g.edge k
leaving-agrees r G inv m n k l e = inv _ _ (m.g.edges k l) (n.g.edges k l) (m.g.sources k l ∙ e ∙ sym (n.g.sources k l))

module _ (r : Rule) (legal : LegalRule r) (kept : EdgesKept r) (G H : Graph) (host : HostGraph G) (a : Applies r G H) where
  -- edge z of the result is e, or is put where e was
  record From (z e : ℕ) : Type 0 where
    edge : Edge G e
    stays : StaysNode r G a.match.g (G.source e)
    source : H.source z ≡ a.constructed.keep_node (G.source e)
    by : (StaysEdge r G a.match.g e × (a.constructed.keep_edge e ≡ z))
        ⊎ ((k : ℕ) × (k < length r.left.edges) × (a.match.g.edge k ≡ e) × (a.constructed.new_edge k ≡ z))

  from_old : (z e : ℕ) → StaysEdge r G a.match.g e → a.constructed.keep_edge e ≡ z → From z e
  from_old z e s q =
      record {
        edge = s.edge;
        stays = source_stays r legal.holds G host a.match e s;
        source = ap H.source (sym q) ∙ a.constructed.kept_sources e s;
        by = inl (s, q);
      }

  from-new : (z k : ℕ) → k < length r.right.edges → a.constructed.new_edge k ≡ z → From z (a.match.g.edge k)
  from-new z k l q =
      let t = kept k l in
      let there : a.match.g.node (edge_of r.right k).source ≡ G.source (a.match.g.edge k)
      = ap a.match.g.node t.1 ∙ sym (a.match.g.sources k t.0) in
      let put = a.constructed.new_sources k l ∙ choose_lt (edge_of r.right k).source r.interface _ _ t.2 in
      record {
        edge = a.match.g.edges k t.0;
        stays =
            subst (StaysNode r G a.match.g) there
            (interface-stays r legal.holds G a.match.g a.match.injective (edge_of r.right k).source t.2);
        source = ap H.source (sym q) ∙ put ∙ ap a.constructed.keep_node there;
        by = inr (k, t.0, refl, q);
      }

  whence : (z : ℕ) → Edge H z → (e : ℕ) × From z e
  whence z k = at (a.constructed.edges.all z k)
    where
      at : ((e : ℕ) × StaysEdge r G a.match.g e × (a.constructed.keep_edge e ≡ z))
          ⊎ ((k : ℕ) × (k < length r.right.edges) × (a.constructed.new_edge k ≡ z)) → (e : ℕ) × From z e
      at (inl t) = (t.0, from_old z t.0 t.1 t.2)
      at (inr t) = (a.match.g.edge t.0, from-new z t.0 t.1 t.2)

  -- so one edge of G gives one of the result
  from_one : (z y e f : ℕ) → From z e → From y f → e ≡ f → z ≡ y
  from_one z y e f s t q = at s.by t.by
    where
      at : (StaysEdge r G a.match.g e × (a.constructed.keep_edge e ≡ z))
          ⊎ ((k : ℕ) × (k < length r.left.edges) × (a.match.g.edge k ≡ e) × (a.constructed.new_edge k ≡ z))
          → (StaysEdge r G a.match.g f × (a.constructed.keep_edge f ≡ y))
          ⊎ ((k : ℕ) × (k < length r.left.edges) × (a.match.g.edge k ≡ f) × (a.constructed.new_edge k ≡ y)) → z ≡ y
      at (inl u) (inl v) = sym u.1 ∙ ap a.constructed.keep_edge q ∙ v.1
      at (inl u) (inr v) = absurd (u.0.kept v.0 v.1 (v.2 ∙ sym q))
      at (inr u) (inl v) = absurd (v.0.kept u.0 u.1 (u.2 ∙ q))
      at (inr u) (inr v) =
          sym u.3 ∙ ap a.constructed.new_edge (a.match.injective.edges _ _ u.1 v.1 (u.2 ∙ q ∙ sym v.2)) ∙ v.3

  pub keeps-one-out : OneOut G → OneOut H
  keeps-one-out inv z y k l q =
      let s = whence z k in
      let t = whence y l in
      let same = sym s.1.source ∙ q ∙ t.1.source in
      let source = a.constructed.nodes.apart_a _ _ s.1.stays t.1.stays same in
      from_one z y s.0 t.0 s.1 t.1 (inv _ _ s.1.edge t.1.edge source)
