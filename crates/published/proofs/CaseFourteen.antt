-- Document 01's case 14, 2147483647 + 1, from bytes, on either core. The run answers 6, since the label can't be held. By the published
-- semantics, whose integers have no bound, the program can't fail there: it can come to a graph, and each graph that it can come to
-- has a node labelled 2147483648. Rests on OneCall.
use Rattle.std.specs.Prelude.{ℕ, zero, suc, ◌<◌, ◌≡◌, refl, true, List, [], ◌∷◌, ◌++◌, get_or, ℤ, pos, ◌+ℤ◌}
use Rattle.std.proofs.Common.{sym, ◌∙◌, ap, append-nil, arith}
use Rattle.std.proofs.Math.Option.{some, none}
use Rattle.meaning.specs.Basics.{choose}
use Rattle.meaning.specs.Layout.{base, small, layout_of}
use Rattle.meaning.specs.Procedures.{program}
use Rattle.meaning.specs.References.{rule_holds}
use Rattle.meaning.specs.Commands.{rule_at}
use Rattle.meaning.specs.Computing.{computing}
use Rattle.meaning.specs.ProvedSet.{live_node}
use Rattle.laws.specs.Numbers.{value}
use Rattle.demands.specs.Demands.{Lendable, run_refused_with, Demand2}
use Rattle.demands.specs.Ours.{ours}
use Rattle.demands.proofs.DemandsMet.{cores_met}
use Rattle.demands.proofs.Cases.{lendable}
use Rattle.meaning.specs.declared.Layout.{Layout}
use Rattle.meaning.specs.declared.Core.{Core}
use Rattle.meaning.specs.declared.Core.TheVariants.{Wide, Small}
use Rattle.published.specs.Integers.{named, atom}
use Rattle.published.proofs.Integers.{named-word}
use Rattle.published.specs.Graphs.{Graph, Node}
use Rattle.published.specs.RuleApplication.{Applies}
use Rattle.published.specs.Semantics.{graph, fails}
use Rattle.published.proofs.Isomorphism.{interface-stays}
use Rattle.published.proofs.Existence.{set-applied}
use Rattle.published.specs.Answers.{Comes}
use Rattle.published.proofs.OneCall.{answers-other, stop-no-fail, of-call}
use Rattle.published.specs.CaseFourteen.{case14, rule, tree, graph14, Labelled}

form14 : (L : Layout) → program (case14 L).image ≡ some tree
unfolding computing
form14 L = refl

holds14 : rule_holds rule ≡ true
unfolding computing
holds14 = refl

-- the node table's bytes, on either core

wide-bytes : (case14 base).nodes ≡ live_node 0 0 (1 ∷ 127 ∷ 255 ∷ 255 ∷ 255 ∷ [])
unfolding computing
wide-bytes = refl

small_bytes : (case14 small).nodes ≡ 1 ∷ 0 ∷ 0 ∷ 1 ∷ 127 ∷ 255 ∷ 255 ∷ 255 ∷ []
unfolding computing
small_bytes = refl

-- Ours, computed.

pub answers_6 : (c : Core) → ((ours (layout_of c)).run (case14 (layout_of c))).answer ≡ 6
unfolding computing
answers_6 Wide = refl
answers_6 Small = refl

lent14 : (c : Core) → Lendable (case14 (layout_of c))
unfolding computing
lent14 Wide = lendable (case14 (layout_of Wide)) refl
lent14 Small = lendable (case14 (layout_of Small)) refl

accepted14 : (c : Core) → run_refused_with (layout_of c) (case14 (layout_of c)) ≡ none
unfolding computing
accepted14 Wide = refl
accepted14 Small = refl

label_at : (c : Core) (v : ℕ) → Node (graph14 c) v → ((graph14 c).node_label v).list ≡ 2147483647 ∷ []
unfolding computing
label_at Wide zero k = refl
label_at Wide (suc v) k = let z : ◌≡◌ {A = ℕ} 0 1 = cc in absurd (omega arith)
label_at Small zero k = refl
label_at Small (suc v) k = let z : ◌≡◌ {A = ℕ} 0 1 = cc in absurd (omega arith)

sum_is : named 2147483647 +ℤ named 1 ≡ pos 2147483648
unfolding value choose
sum_is = rw (named-word 2147483647 (omega arith), named-word 1 (omega arith)) refl

-- By the published semantics.

module _ (c : Core) where
  abbrev L : Layout
  L = layout_of c

  abbrev G : Graph
  G = graph14 c

  second : Demand2 L (ours L)
  second = (cores_met c).1

  pub no-fail : Comes L (case14 L) fails → ⊥
  no-fail =
      stop-no-fail L (ours L) second (case14 L) (lent14 c) (accepted14 c) tree (form14 L) (0 ∷ []) refl (omega arith)
      (omega (arith, answers_6 c))

  pub some-graph : (H : Graph) × Comes L (case14 L) (graph H)
  some-graph =
      answers-other L (ours L) second (case14 L) (lent14 c) (accepted14 c) tree (form14 L) (0 ∷ []) refl (omega arith)
      (λ e. omega (arith, answers_6 c))

  applied-label : (H : Graph) → Applies rule G H → Labelled H (pos 2147483648)
  applied-label H a =
      let m = a.match in
      let i = m.compatible.nodes 0 (omega arith) in
      let l = label_at c (m.g.node 0) (m.g.nodes 0 (omega arith)) in
      let n = (a.constructed.interface_labels 0 (omega arith)).list in
      let q : (G.node_label (m.g.node 0)).list ≡ m.α.of 0 ++ [] = i.4 ∙ (λ j. i.2 j ++ i.3 j) in
      let e : m.α.of 0 ≡ 2147483647 ∷ [] = sym (append-nil (m.α.of 0)) ∙ sym q ∙ l in
      let s = ap (λ (k : List ℕ). atom (named (get_or k 0 0) +ℤ named 1) ∷ []) e ∙ ap (λ (z : ℤ). atom z ∷ []) sum_is in (
        a.constructed.keep_node (m.g.node 0),
        a.constructed.nodes.from_a _ (interface-stays rule holds14 G m.g m.injective 0 (omega arith)),
        n.4 ∙ (λ j. n.2 j ++ n.3 j) ∙ append-nil _ ∙ s,
      )

  only : (H : Graph) (i : ℕ) → i < 1 → Applies (rule_at (rule ∷ []) i) G H → Applies rule G H
  only H zero k a = a
  only H (suc i) k a = absurd (omega arith)

  pub each-graph : (H : Graph) → Comes L (case14 L) (graph H) → Labelled H (pos 2147483648)
  each-graph H k =
      let o = of-call L (ours L) second (case14 L) (lent14 c) (accepted14 c) tree (form14 L) (0 ∷ []) refl (omega arith) (graph H) k in
      let a = set-applied (rule ∷ []) G H o in
      applied-label H (only H a.place a.listed a.applies)
