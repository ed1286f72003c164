-- A walk: the root goes along an edge to an unmarked node and leaves a red one behind, as long as it can. Where there is at most one root
-- and at most one edge leaves each node, there is one way to go. Rests on Determined.
use Rattle.std.specs.Prelude.{◌≡◌, refl, true, [], ◌∷◌, ◌++◌, ℕ, zero, suc, ◌<◌}
use Rattle.std.proofs.Math.Option.{some}
use Rattle.std.proofs.Common.{arith}
use Rattle.meaning.specs.Layout.{base}
use Rattle.meaning.specs.Procedures.{program}
use Rattle.meaning.specs.Computing.{computing}
use Rattle.laws.specs.Undoing.{base-numbered}
use Rattle.demands.specs.Ours.{ours}
use Rattle.demands.proofs.Exported.{ours-exported}
use Rattle.demands.proofs.Cases.{lendable}
use Rattle.laws.specs.Numbers.{bytes-by}
use Rattle.meaning.specs.ProvedSet.{live_node, live_edge, red_node}
use Rattle.laws.specs.LegalCommands.{LegalRules}
use Rattle.laws.specs.LegalImage.{program-legal}
use Rattle.published.specs.Graphs.{Graph}
use Rattle.published.specs.RuleApplication.{Applied}
use Rattle.published.specs.Results.{host_in}
use Rattle.published.specs.Conformance.{held}
use Rattle.published.specs.Alike.{Calls}
use Rattle.published.specs.Semantics.{Outcome, graph, ⟦◌⟧, com_seq}
use Rattle.published.specs.Steady.{SameOutcome, Steady}
use Rattle.published.proofs.Families.OneRoot.{one-root-held}
use Rattle.published.specs.Families.OneOut.{EdgesKept}
use Rattle.published.proofs.Families.OneOut.{one-out-held}
use Rattle.published.specs.Families.Determined.{KnownNode, root, source, target, KnownEdge, leaving, OneWay}
use Rattle.published.proofs.Families.Determined.{walk_steady}
use Rattle.published.specs.OnlyOutcome.{OneOutcome}
use Rattle.published.proofs.OnlyOutcome.{one-outcome}
use Rattle.published.specs.Instances.Walk.{image, step, tree, nodes, two_nodes}

pub walk_is : program image ≡ some tree
unfolding computing
walk_is = refl

legal : LegalRules tree.rules
unfolding computing
legal = program-legal image tree (bytes-by image refl) walk_is refl

edges-kept : EdgesKept step
edges-kept zero l = (omega arith, refl, omega arith)
edges-kept (suc k) l = absurd (omega arith)

known-edge : (k : ℕ) → k < 1 → KnownEdge step true k
known-edge zero l = leaving 0 refl (omega arith) (root 0 (omega arith) refl)
known-edge (suc k) l = absurd (omega arith)

known-node : (i : ℕ) → i < 2 → KnownNode step true i
known-node zero k = source 0 0 (known-edge 0 (omega arith)) refl
known-node (suc zero) k = target 1 0 (known-edge 0 (omega arith)) refl
known-node (suc (suc i)) k = absurd (omega arith)

steady : Calls (Steady OneWay) (com_seq tree.rules tree.main)
unfolding com_seq
steady =
    walk_steady step legal.0 (record { most = omega arith; old = omega arith }) edges-kept (record { nodes = known-node; edges = known-edge })

pub walk_only : OneOutcome image tree OneWay
walk_only = one-outcome image tree walk_is OneWay steady

one_way : OneWay (held base nodes (live_edge 0 1))
unfolding computing
one_way = (one-root-held (host_in base nodes (live_edge 0 1)) (omega arith), one-out-held (host_in base nodes (live_edge 0 1)) (omega arith))

pub walk_one : (X : Outcome Graph) → ⟦◌⟧ Graph Applied (com_seq tree.rules tree.main) (held base nodes (live_edge 0 1)) X
    → SameOutcome (graph (held base (red_node ++ live_node 0 1 (0 ∷ [])) (live_edge 0 1))) X
unfolding computing
walk_one =
    walk_only.result base base-numbered (ours base) (ours-exported base) two_nodes (lendable two_nodes refl) refl one_way refl
