-- The published program is-cycle (programs/is-cycle) from its second command on, where one node has become the root: on graphs that
-- have at most one root. Each of its rules deletes the root, so that by the dangling condition the root's edges are those of the
-- rule, and red3 and red2 never match both. Its first command, which makes any grey node the root, has many results.
-- Rests on Determined and Unchanged.
use Rattle.std.specs.Prelude.{◌≡◌, refl, Bool, true, false, [], ◌∷◌, ℕ, zero, suc, ◌<◌, length}
use Rattle.std.proofs.Common.{sym, ◌∙◌, ap, inl, inr, arith}
use Rattle.std.proofs.Math.Option.{some}
use Rattle.meaning.specs.Procedures.{program}
use Rattle.meaning.specs.Commands.{rule_at}
use Rattle.meaning.specs.Computing.{computing}
use Rattle.laws.specs.Numbers.{bytes-by}
use Rattle.laws.specs.LegalCommands.{LegalRules}
use Rattle.laws.specs.LegalImage.{program-legal}
use Rattle.published.specs.Graphs.{Graph, HostGraph}
use Rattle.published.specs.RuleApplication.{Exactly, Leaves, Arrives, Matches, Applies}
use Rattle.published.proofs.Degrees.{deleted_in, deleted_out}
use Rattle.published.specs.SameMatch.{Agree}
use Rattle.published.specs.Alike.{Calls}
use Rattle.published.specs.Semantics.{com_seq, in_order, followed}
use Rattle.published.specs.Steady.{Steady}
use Rattle.published.proofs.Steady.{one-match}
use Rattle.published.specs.Families.OneRoot.{OneRoot}
use Rattle.published.proofs.Families.OneRoot.{one-root-iso, keeps-one-root}
use Rattle.published.specs.Families.OneOut.{OneOut}
use Rattle.published.specs.Families.Determined.{source_of, target_of, KnownNode, root, source, target, KnownEdge, leaving_deleted, reaching_deleted}
use Rattle.published.proofs.Families.Determined.{determined_agrees, determined_steady}
use Rattle.published.proofs.Families.Unchanged.{tests-steady}
use Rattle.published.specs.OnlyOutcome.{OneOutcome}
use Rattle.published.proofs.OnlyOutcome.{one-outcome}
use Rattle.published.specs.Instances.RootedCycle.{image, red1, red2, red3, match, tree, cuts}

pub rooted_cycle_is : program image ≡ some tree
unfolding computing
rooted_cycle_is = refl

legal : LegalRules tree.rules
unfolding computing
legal = program-legal image tree (bytes-by image refl) rooted_cycle_is refl

-- red1 matches a lone root with a loop: one edge arrives at it and one leaves, the loop both times

pub red1_degrees : (G : Graph) (m : Matches red1 G) → Exactly 1 (Arrives G (m.g.node 0)) × Exactly 1 (Leaves G (m.g.node 0))
unfolding computing
red1_degrees G m = (
  deleted_in red1 legal.0.holds G m 0 (omega arith) (omega arith),
  deleted_out red1 legal.0.holds G m 0 (omega arith) (omega arith),
)

-- Each rule is determined: the root, its edges, which the rule deletes with it, and their other ends.

node_1 : (i : ℕ) → i < 1 → KnownNode red1 false i
node_1 zero k = root 0 (omega arith) refl
node_1 (suc i) k = absurd (omega arith)

edge_1 : (k : ℕ) → k < 1 → KnownEdge red1 false k
edge_1 zero l = leaving_deleted 0 (omega arith) (omega arith, omega arith) (λ j h e. omega arith) (node_1 0 (omega arith))
edge_1 (suc k) l = absurd (omega arith)

leaves_2 : (j : ℕ) → j < 2 → source_of red2 j ≡ 0 → j ≡ 0
leaves_2 zero h e = refl
leaves_2 (suc zero) h e = absurd (omega arith)
leaves_2 (suc (suc j)) h e = absurd (omega arith)

reaches_2 : (j : ℕ) → j < 2 → target_of red2 j ≡ 0 → j ≡ 1
reaches_2 zero h e = absurd (omega arith)
reaches_2 (suc zero) h e = refl
reaches_2 (suc (suc j)) h e = absurd (omega arith)

root_2 : KnownNode red2 false 0
root_2 = root 0 (omega arith) refl

edge_2 : (k : ℕ) → k < 2 → KnownEdge red2 false k
edge_2 zero l = leaving_deleted 0 (omega arith) (omega arith, omega arith) leaves_2 root_2
edge_2 (suc zero) l = reaching_deleted 1 (omega arith) (omega arith, omega arith) reaches_2 root_2
edge_2 (suc (suc k)) l = absurd (omega arith)

node_2 : (i : ℕ) → i < 2 → KnownNode red2 false i
node_2 zero k = root_2
node_2 (suc zero) k = target 1 0 (edge_2 0 (omega arith)) refl
node_2 (suc (suc i)) k = absurd (omega arith)

reaches_3 : (j : ℕ) → j < 2 → target_of red3 j ≡ 2 → j ≡ 0
reaches_3 zero h e = refl
reaches_3 (suc zero) h e = absurd (omega arith)
reaches_3 (suc (suc j)) h e = absurd (omega arith)

leaves_3 : (j : ℕ) → j < 2 → source_of red3 j ≡ 2 → j ≡ 1
leaves_3 zero h e = absurd (omega arith)
leaves_3 (suc zero) h e = refl
leaves_3 (suc (suc j)) h e = absurd (omega arith)

root_3 : KnownNode red3 false 2
root_3 = root 2 (omega arith) refl

edge_3 : (k : ℕ) → k < 2 → KnownEdge red3 false k
edge_3 zero l = reaching_deleted 0 (omega arith) (omega arith, omega arith) reaches_3 root_3
edge_3 (suc zero) l = leaving_deleted 1 (omega arith) (omega arith, omega arith) leaves_3 root_3
edge_3 (suc (suc k)) l = absurd (omega arith)

node_3 : (i : ℕ) → i < 3 → KnownNode red3 false i
node_3 zero k = source 0 0 (edge_3 0 (omega arith)) refl
node_3 (suc zero) k = target 1 1 (edge_3 1 (omega arith)) refl
node_3 (suc (suc zero)) k = root_3
node_3 (suc (suc (suc i))) k = absurd (omega arith)

-- red3 and red2 never match both: the root's edges would be those of either, and red3 has two nodes where red2 has one
module _ (G : Graph) (inv : OneRoot G) (m : Matches red3 G) (n : Matches red2 G) where
  same-root : m.g.node 2 ≡ n.g.node 0
  same-root =
      let p = m.compatible.roots 2 (omega arith) in
      let q = n.compatible.roots 0 (omega arith) in
      inv _ _ (m.g.nodes 2 (omega arith)) (n.g.nodes 0 (omega arith)) (sym p) (sym q)

  behind : (k : ℕ) → k < 2 → m.g.edge k ≡ n.g.edge 0 → m.g.node 1 ≡ n.g.node 1
  behind zero l e =
      let s = sym (m.g.sources 0 l) ∙ ap G.source e ∙ n.g.sources 0 (omega arith) ∙ sym same-root in
      let z = m.injective.nodes 0 2 (omega arith) (omega arith) s in
      absurd (omega (arith, z))
  behind (suc zero) l e = sym (m.g.targets 1 l) ∙ ap G.target e ∙ n.g.targets 0 (omega arith)
  behind (suc (suc k)) l e = absurd (omega arith)

  before : (k : ℕ) → k < 2 → m.g.edge k ≡ n.g.edge 1 → m.g.node 0 ≡ n.g.node 1
  before zero l e = sym (m.g.sources 0 l) ∙ ap G.source e ∙ n.g.sources 1 (omega arith)
  before (suc zero) l e =
      let s = sym (m.g.targets 1 l) ∙ ap G.target e ∙ n.g.targets 1 (omega arith) ∙ sym same-root in
      let z = m.injective.nodes 1 2 (omega arith) (omega arith) s in
      absurd (omega (arith, z))
  before (suc (suc k)) l e = absurd (omega arith)

  not-both : ⊥
  not-both =
      let to = n.g.sources 0 (omega arith) ∙ sym same-root in
      let from = n.g.targets 1 (omega arith) ∙ sym same-root in
      let s = m.dangling (n.g.edge 0) 2 (n.g.edges 0 (omega arith)) (omega arith) (omega arith) (inl to) in
      let t = m.dangling (n.g.edge 1) 2 (n.g.edges 1 (omega arith)) (omega arith) (omega arith) (inr from) in
      let same = before t.0 t.1 t.2 ∙ sym (behind s.0 s.1 s.2) in
      let z = m.injective.nodes 0 1 (omega arith) (omega arith) same in
      omega (arith, z)

cuts-keep : (i : ℕ) → i < length cuts → (G H : Graph) → HostGraph G → OneRoot G → Applies (rule_at cuts i) G H → OneRoot H
cuts-keep zero k G H = keeps-one-root red3 legal.1.1.0 (record { most = omega arith; old = omega arith }) G H
cuts-keep (suc zero) k G H = keeps-one-root red2 legal.1.0 (record { most = omega arith; old = omega arith }) G H
cuts-keep (suc (suc i)) k G H = absurd (omega arith)

cuts-apart : (i j : ℕ) → i < length cuts → j < length cuts → (G : Graph) → HostGraph G → OneRoot G → Matches (rule_at cuts i) G
    → Matches (rule_at cuts j) G → i ≡ j
cuts-apart zero zero k l G host inv m n = refl
cuts-apart zero (suc zero) k l G host inv m n = absurd (not-both G inv m n)
cuts-apart (suc zero) zero k l G host inv m n = absurd (not-both G inv n m)
cuts-apart (suc zero) (suc zero) k l G host inv m n = refl
cuts-apart zero (suc (suc j)) k l G host inv m n = absurd (omega arith)
cuts-apart (suc zero) (suc (suc j)) k l G host inv m n = absurd (omega arith)
cuts-apart (suc (suc i)) j k l G host inv m n = absurd (omega arith)

no-out : (G : Graph) → ◌≡◌ {A = Bool} false true → OneOut G
no-out G e = let z : ◌≡◌ {A = ℕ} 0 1 = cc in absurd (omega arith)

cuts-agree : (i : ℕ) → i < length cuts → (G : Graph) → HostGraph G → OneRoot G → (m n : Matches (rule_at cuts i) G)
    → Agree (rule_at cuts i) G m.g n.g
cuts-agree zero k G host inv m n =
    determined_agrees red3 false legal.1.1.0.holds G inv (no-out G) m n (record { nodes = node_3; edges = edge_3 })
cuts-agree (suc zero) k G host inv m n =
    determined_agrees red2 false legal.1.0.holds G inv (no-out G) m n (record { nodes = node_2; edges = edge_2 })
cuts-agree (suc (suc i)) k G host inv m n = absurd (omega arith)

red1-steady : Steady OneRoot (red1 ∷ [])
red1-steady =
    determined_steady red1 legal.0 (record { most = omega arith; old = omega arith }) (record { nodes = node_1; edges = edge_1 })

steady : Calls (Steady OneRoot) (com_seq tree.rules tree.main)
unfolding com_seq in_order followed
steady = (
  (one-match OneRoot cuts (legal.1.1.0, (legal.1.0, tt)) cuts-keep cuts-apart cuts-agree, red1-steady),
  (tests-steady OneRoot (λ G H host. one-root-iso G H) (match ∷ []) (legal.1.1.1.0, tt) (record { same = refl; whole = refl }, tt), tt, tt),
)

pub rooted_cycle_only : OneOutcome image tree OneRoot
rooted_cycle_only = one-outcome image tree rooted_cycle_is OneRoot steady
