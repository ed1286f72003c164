-- Case P of document 01 (programs/case-p) on graphs in which at most one edge joins two grey nodes: its rule turns that edge and leaves
-- none. Its own graph is such a graph, so that what document 01 says of case P is all that can come of it, on either core.
-- Rests on Whence.
use Rattle.std.specs.Prelude.{◌≡◌, refl, ◌⊎◌, List, [], ◌∷◌, ℕ, zero, suc, ◌*◌, ◌<◌, length, replicate}
use Rattle.std.proofs.Common.{sym, ◌∙◌, ap, inl, inr, arith}
use Rattle.std.proofs.Math.Option.{some}
use Rattle.meaning.specs.Layout.{base, small, layout_of, record_length, read_edges, write_nodes, write_edges}
use Rattle.meaning.specs.Procedures.{program}
use Rattle.meaning.specs.Calls.{Lent}
use Rattle.meaning.specs.Computing.{computing}
use Rattle.laws.specs.Undoing.{base-numbered, small-numbered}
use Rattle.demands.specs.Ours.{ours}
use Rattle.demands.proofs.Exported.{ours-exported}
use Rattle.demands.proofs.Cases.{lendable}
use Rattle.meaning.specs.Tags.{any_mark, blue_mark, grey_mark, red_mark}
use Rattle.meaning.specs.Laws.Every.{Every}
use Rattle.laws.specs.Numbers.{bytes-by}
use Rattle.meaning.specs.Laws.Slots.{live_at_lt}
use Rattle.laws.specs.LegalCommands.{LegalRules}
use Rattle.laws.specs.LegalImage.{program-legal}
use Rattle.meaning.specs.declared.Layout.{Layout}
use Rattle.meaning.specs.declared.Core.{Core}
use Rattle.meaning.specs.declared.Core.TheVariants.{Wide, Small}
use Rattle.published.specs.Graphs.{NodeLabel, Graph, HostGraph}
use Rattle.published.specs.RuleApplication.{StaysNode, StaysEdge, Applied, Matches, Applies}
use Rattle.published.proofs.OneResult.{source_stays, target-stays, right_end}
use Rattle.published.specs.Semantics.{Outcome, graph, ⟦◌⟧, com_seq}
use Rattle.published.specs.Alike.{Calls}
use Rattle.published.specs.Conformance.{held}
use Rattle.published.specs.SameMatch.{Agree}
use Rattle.published.specs.Steady.{SameOutcome, Steady}
use Rattle.published.proofs.Steady.{one-rule}
use Rattle.published.proofs.Families.Whence.{right-placed, not_made, marked-stays}
use Rattle.published.specs.OnlyOutcome.{OneOutcome}
use Rattle.published.proofs.OnlyOutcome.{one-outcome}
use Rattle.published.specs.Instances.CaseP.{image, turn, tree, Grey, OneGreyEdge, node, edge}

pub case_p-is : program image ≡ some tree
unfolding computing
case_p-is = refl

legal : LegalRules tree.rules
unfolding computing
legal = program-legal image tree (bytes-by image refl) case_p-is refl

module _ (G H : Graph) (host : HostGraph G) (a : Applies turn G H) where
  -- the right side has no grey node, so that a grey node that stays was grey
  no-grey : Every (λ n. (n.mark ≡ any_mark → ⊥) × (n.mark ≡ 4 → ⊥)) turn.right.nodes
  no-grey = ((λ e. omega arith, λ e. omega arith), ((λ e. omega arith, λ e. omega arith), tt))

  was-grey : (v : ℕ) → StaysNode turn G a.match.g v → (H.node_label (a.constructed.keep_node v)).mark ≡ 4 → (G.node_label v).mark ≡ 4
  was-grey v s e =
      let t = marked-stays turn G H a legal.0.holds 4 no-grey v s e in ap (λ (l : NodeLabel). l.mark) (sym t.label) ∙ e

  -- an edge that joins grey nodes did so
  abbrev Was : ℕ → Type 0
  Was z = (e : ℕ) × Grey G e × (a.constructed.keep_edge e ≡ z)

  was : (z : ℕ) → Grey H z → Was z
  was z k = from (a.constructed.edges.all z k.edge)
    where
      mark : (x y : ℕ) → x ≡ y → (H.node_label x).mark ≡ 4 → (H.node_label y).mark ≡ 4
      mark x y p e = ap (λ (u : ℕ). (H.node_label u).mark) (sym p) ∙ e

      from : ((e : ℕ) × StaysEdge turn G a.match.g e × (a.constructed.keep_edge e ≡ z))
          ⊎ ((j : ℕ) × (j < 1) × (a.constructed.new_edge j ≡ z)) → Was z
      from (inl t) =
          let s = source_stays turn legal.0.holds G host a.match t.0 t.1 in
          let u = target-stays turn legal.0.holds G host a.match t.0 t.1 in
          let p = ap H.source (sym t.2) ∙ a.constructed.kept_sources t.0 t.1 in
          let q = ap H.target (sym t.2) ∙ a.constructed.kept_targets t.0 t.1 in
          let grey : Grey G t.0
          = record { edge = t.1.edge; source = was-grey _ s (mark _ _ p k.source); target = was-grey _ u (mark _ _ q k.target) } in
          (t.0, grey, t.2)
      from (inr t) =
          let b = (right_end turn legal.0.holds G host a.match t.0 t.1).0 in
          let p = ap H.source (sym t.2) ∙ a.constructed.new_sources t.0 t.1 in
          absurd (not_made turn G H a legal.0.holds 4 no-grey _ (mark _ _ p k.source) (right-placed turn G H a legal.0.holds _ b))

  turn-keeps : OneGreyEdge G → OneGreyEdge H
  turn-keeps inv z y k l =
      let s = was z k in
      let t = was y l in
      sym s.2 ∙ ap a.constructed.keep_edge (inv _ _ s.1 t.1) ∙ t.2

-- the edge is determined, and with it its ends
module _ (G : Graph) (inv : OneGreyEdge G) (m n : Matches turn G) where
  grey : (m : Matches turn G) → Grey G (m.g.edge 0)
  grey m =
      record {
        edge = m.g.edges 0 (omega arith);
        source = rw (m.g.sources 0 (omega arith)) (sym (m.compatible.node_marks 0 (omega arith) (λ e. omega arith)));
        target = rw (m.g.targets 0 (omega arith)) (sym (m.compatible.node_marks 1 (omega arith) (λ e. omega arith)));
      }

  same-edge : m.g.edge 0 ≡ n.g.edge 0
  same-edge = inv _ _ (grey m) (grey n)

  same_end : (end : ℕ → ℕ) {v w : ℕ} → end (m.g.edge 0) ≡ v → end (n.g.edge 0) ≡ w → v ≡ w
  same_end end p q = sym p ∙ ap end same-edge ∙ q

  same_nodes : (i : ℕ) → i < 2 → m.g.node i ≡ n.g.node i
  same_nodes zero k = same_end G.source (m.g.sources 0 (omega arith)) (n.g.sources 0 (omega arith))
  same_nodes (suc zero) k = same_end G.target (m.g.targets 0 (omega arith)) (n.g.targets 0 (omega arith))
  same_nodes (suc (suc i)) k = absurd (omega arith)

  same_edges : (k : ℕ) → k < 1 → m.g.edge k ≡ n.g.edge k
  same_edges zero l = same-edge
  same_edges (suc k) l = absurd (omega arith)

  agree : Agree turn G m.g n.g
  agree = record { nodes = same_nodes; edges = same_edges }

steady : Calls (Steady OneGreyEdge) (com_seq tree.rules tree.main)
unfolding com_seq
steady =
    one-rule OneGreyEdge turn legal.0 (λ G H host inv a. turn-keeps G H host a inv) (λ G host inv m n. agree G inv m n)

pub case_p-only : OneOutcome image tree OneGreyEdge
case_p-only = one-outcome image tree case_p-is OneGreyEdge steady

module _ (L : Layout) where
  abbrev nodes : List ℕ
  nodes = write_nodes L (node grey_mark 5 ∷ node grey_mark 7 ∷ [])

  abbrev edges : List ℕ
  edges = write_edges L (edge 0 1 ∷ [])

  abbrev case_p : Lent
  case_p =
      record { nodes = nodes; edges = edges; journal = replicate (8 * record_length L) 1; image = image; fuel = 10; report = replicate 8 7 }

  -- the graph of document 01, and the red 5, the blue 12 and the edge from 1 to 0

  abbrev came : Graph
  came = held L nodes edges

  abbrev turned : Graph
  turned = held L (write_nodes L (node red_mark 5 ∷ node blue_mark 12 ∷ [])) (write_edges L (edge 1 0 ∷ []))

one-edge : (c : Core) → length (read_edges (layout_of c) (edges (layout_of c))) ≡ 1
unfolding computing
one-edge Wide = refl
one-edge Small = refl

one-grey : (c : Core) → OneGreyEdge (came (layout_of c))
one-grey c e f k l =
    let slots = read_edges (layout_of c) (edges (layout_of c)) in
    omega (arith, one-edge c, live_at_lt slots e k.edge, live_at_lt slots f l.edge)

-- nothing else can come of it
pub case_p-one : (c : Core) (X : Outcome Graph) → ⟦◌⟧ Graph Applied (com_seq tree.rules tree.main) (came (layout_of c)) X
    → SameOutcome (graph (turned (layout_of c))) X
unfolding computing
case_p-one Wide =
    case_p-only.result base base-numbered (ours base) (ours-exported base) (case_p base) (lendable (case_p base) refl) refl (one-grey Wide) refl
case_p-one Small =
    case_p-only.result small small-numbered (ours small) (ours-exported small) (case_p small) (lendable (case_p small) refl) refl (one-grey Small) refl
