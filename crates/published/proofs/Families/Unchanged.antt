-- Rules that only test, and what stays in place. Where the right side of a rule is its left side and the interface all of its nodes, the graph itself is a
-- result of each match, so that every result is isomorphic to it. A set of such rules is steady relative to every invariant that
-- isomorphic graphs share. Rests on Steady and OneResult.
use Rattle.std.proofs.Math.Path.{◌≡◌, refl, sym}
use Rattle.std.proofs.Common.{◌∙◌, subst, inl, inr, arith}
use Rattle.std.specs.Prelude.{◌⊎◌, Bool, List, ℕ, zero, suc, ◌<◌, ◌≤◌, length, eqb}
use Rattle.std.proofs.Math.Bool.{true, false}
use Rattle.meaning.specs.Basics.{choose, both}
use Rattle.meaning.specs.Image.{RuleGraph, Rule}
use Rattle.meaning.specs.Tags.{any_mark}
use Rattle.meaning.specs.Commands.{rule_at}
use Rattle.meaning.specs.Laws.Tests.{choose_lt}
use Rattle.meaning.specs.Laws.Every.{Every, Every-at}
use Rattle.laws.specs.References.{ends}
use Rattle.laws.specs.Values.{LegalRule, right-marked}
use Rattle.laws.specs.LegalCommands.{LegalRules, legal-rule}
use Rattle.published.specs.Graphs.{Graph, Node, Edge, HostGraph, Iso}
use Rattle.published.specs.RuleApplication.{node_of, edge_of, Premorphism, RootsGo, StaysNode, StaysEdge, Union, root_from, placed, Constructed, Matches, Applies}
use Rattle.published.proofs.Isomorphism.{iso-trans, iso-back}
use Rattle.published.proofs.OneResult.{one-result, value_of}
use Rattle.published.specs.Steady.{Steady}
use Rattle.published.proofs.Application.Values.{left-formed}
use Rattle.published.specs.Families.Unchanged.{Unchanged}

-- What stays in place: all nodes where none is deleted or new, and all edges where the rule has none.

pub nodes_stay_lem : (r : Rule) → r.interface ≡ length r.left.nodes → length r.right.nodes ≡ r.interface → (G : Graph) (g : Premorphism r.left G)
    → Union (StaysNode r G g) (λ j. (r.interface ≤ j) × (j < length r.right.nodes)) (Node G) (λ v. v) (λ v. v)
nodes_stay_lem r left right G g =
    record {
      from_a = λ v s. s.node;
      from_b = λ j b. absurd (omega (arith, b.0, b.1));
      apart_a = λ v w s t e. e;
      apart_b = λ v w s t e. e;
      apart = λ v j s b e. omega (arith, b.0, b.1);
      all = λ v k. inl (v, record { node = k; kept = λ j l n e. omega arith }, refl);
    }

pub edges_stay_lem : (r : Rule) → length r.left.edges ≡ 0 → length r.right.edges ≡ 0 → (G : Graph) (g : Premorphism r.left G)
    → Union (StaysEdge r G g) (λ k. k < length r.right.edges) (Edge G) (λ e. e) (λ k. k)
edges_stay_lem r left right G g =
    record {
      from_a = λ e s. s.edge;
      from_b = λ k b. absurd (omega arith);
      apart_a = λ e f s t q. q;
      apart_b = λ e f s t q. q;
      apart = λ e k s b q. omega arith;
      all = λ e k. inl (e, record { edge = k; kept = λ k l q. omega arith }, refl);
    }

-- the root flag that a matched node keeps, where both sides have the same
root-same : (preserving : Bool) (left host : ℕ) → left ≤ 1 → RootsGo preserving left host → host ≡ root_from preserving left host left
unfolding choose both
root-same false left host h e = sym e
root-same true zero host h f = refl
root-same true (suc zero) host h f = f refl
root-same true (suc (suc n)) host h f = absurd (omega arith)

module _ (r : Rule) (legal : LegalRule r) (u : Unchanged r) (G : Graph) (m : Matches r G) where
  right-nodes : length r.right.nodes ≡ r.interface
  right-nodes = rw u.same (sym u.whole)

  left-edge : (k : ℕ) → k < length r.right.edges → k < length r.left.edges
  left-edge k l = rw u.same at l

  edges : Union (StaysEdge r G m.g) (λ k. k < length r.right.edges) (Edge G) (λ e. e) m.g.edge
  edges =
      record {
        from_a = λ e s. s.edge;
        from_b = λ k l. m.g.edges k (left-edge k l);
        apart_a = λ e f s t q. q;
        apart_b = λ j k l n q. m.injective.edges j k (left-edge j l) (left-edge k n) q;
        apart = λ e k s l q. s.kept k (left-edge k l) (sym q);
        all = λ e k. at e k (value_of m.g.edge (length r.left.edges) e);
      }
    where
      at : (e : ℕ) → Edge G e
          → ((k : ℕ) × (k < length r.left.edges) × (m.g.edge k ≡ e)) ⊎ ((k : ℕ) → k < length r.left.edges → m.g.edge k ≡ e → ⊥)
          → ((x : ℕ) × StaysEdge r G m.g x × (x ≡ e)) ⊎ ((x : ℕ) × (x < length r.right.edges) × (m.g.edge x ≡ e))
      at e k (inl t) = inr (t.0, rw u.same t.1, t.2)
      at e k (inr f) = inl (e, record { edge = k; kept = f }, refl)

  -- a left node is where it was
  in_place : (j : ℕ) → j < length r.left.nodes → placed r m.g.node (λ v. v) (λ v. v) j ≡ m.g.node j
  in_place j l = choose_lt j r.interface _ _ (omega (arith, u.whole))

  mark-same : (i : ℕ) → i < length r.left.nodes → (b : Bool) → eqb (node_of r.left i).mark any_mark ≡ b
      → (G.node_label (m.g.node i)).mark ≡ choose b (G.node_label (m.g.node i)).mark (node_of r.left i).mark
  unfolding choose
  mark-same i l true e = refl
  mark-same i l false e = sym (m.compatible.node_marks i l (λ q. let z : ◌≡◌ {A = ℕ} 0 1 = cc in omega arith))

  -- the graph is a result
  itself : Constructed r G m.g m.α.of G
  itself =
      record {
        keep_node = λ v. v;
        new_node = λ v. v;
        keep_edge = λ e. e;
        new_edge = m.g.edge;
        nodes = nodes_stay_lem r u.whole right-nodes G m.g;
        edges = edges;
        kept_sources = λ e s. refl;
        kept_targets = λ e s. refl;
        new_sources = λ k l.
            let n = left-edge k l in
            rw u.same (m.g.sources k n ∙ sym (in_place _ (ends r legal.holds k n).0));
        new_targets = λ k l.
            let n = left-edge k l in
            rw u.same (m.g.targets k n ∙ sym (in_place _ (ends r legal.holds k n).1));
        kept_labels = λ v s f. refl;
        interface_labels = λ i k.
            let l : i < length r.left.nodes = omega (arith, u.whole) in
            rw u.same
            (record { list = m.compatible.nodes i l; root = root-same r.preserving _ _ (left-formed r legal i).root (m.compatible.roots i l); mark = mark-same i l _ refl });
        new_labels = λ j k l. absurd (omega (arith, right-nodes));
        kept_edge_labels = λ e s. refl;
        new_edge_labels = λ k l. let n = left-edge k l in rw u.same (record { list = m.compatible.edges k n; mark = sym (m.compatible.edge_marks k n (marked k l)) });
      }
    where
      marked : (k : ℕ) → k < length r.right.edges → (edge_of r.left k).mark ≡ any_mark → ⊥
      marked k l q =
          let right = Every-at (λ e. eqb e.mark any_mark ≡ false) _ refl r.right.edges (right-marked r legal.holds) k in
          let left = subst (λ (L : RuleGraph). eqb (edge_of L k).mark any_mark ≡ false) u.same right in
          let none : eqb any_mark any_mark ≡ false = rw q at left in
          let z : ◌≡◌ {A = ℕ} 0 1 = cc in
          omega arith

  pub unchanged_result : HostGraph G → (H : Graph) → Constructed r G m.g m.α.of H → Iso G H
  unchanged_result host H c = one-result r legal.holds G host m G H itself c

-- Sets of such rules.
pub tests-steady : (Inv : Graph → Type 0) → ((G H : Graph) → HostGraph G → Iso G H → Inv G → Inv H) → (R : List Rule) → LegalRules R
    → Every Unchanged R → Steady Inv R
tests-steady Inv shared R legal tests =
    record {
      keeps = λ G H host inv a. shared G H host (result a.place G H host a.applies) inv;
      one = λ G H H' host inv a b.
          let i = result a.place G H host a.applies in
          iso-trans H G H' (iso-back G H host i) (result b.place G H' host b.applies);
    }
  where
    result : (k : ℕ) (G H : Graph) → HostGraph G → Applies (rule_at R k) G H → Iso G H
    result k G H host a =
        unchanged_result (rule_at R k) (legal-rule R legal k) (Every-at Unchanged _ (record { same = refl; whole = refl }) R tests k)
        G a.match host H a.constructed
