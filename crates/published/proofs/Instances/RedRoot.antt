-- A loop over one rule that marks an unmarked, unlabelled root red, on graphs that have at most one root; and on one such graph.
-- Rests on Determined.
use Rattle.std.specs.Prelude.{◌≡◌, refl, false, [], ◌∷◌, ◌++◌, ℕ, zero, suc, ◌<◌}
use Rattle.std.proofs.Math.Option.{some}
use Rattle.std.proofs.Common.{arith}
use Rattle.meaning.specs.Layout.{base}
use Rattle.meaning.specs.Procedures.{program}
use Rattle.meaning.specs.Computing.{computing}
use Rattle.laws.specs.Undoing.{base-numbered}
use Rattle.demands.specs.Ours.{ours}
use Rattle.demands.proofs.Exported.{ours-exported}
use Rattle.demands.proofs.Cases.{lendable}
use Rattle.meaning.specs.ProvedSet.{live_node, plain_node}
use Rattle.laws.specs.Numbers.{bytes-by}
use Rattle.laws.specs.LegalCommands.{LegalRules}
use Rattle.laws.specs.LegalImage.{program-legal}
use Rattle.published.specs.Graphs.{Graph}
use Rattle.published.specs.RuleApplication.{Applied}
use Rattle.published.specs.Results.{host_in}
use Rattle.published.specs.Conformance.{held}
use Rattle.published.specs.Alike.{Calls}
use Rattle.published.specs.Semantics.{Outcome, graph, ⟦◌⟧, com_seq}
use Rattle.published.specs.Steady.{SameOutcome, Steady}
use Rattle.published.specs.Families.OneRoot.{OneRoot}
use Rattle.published.proofs.Families.OneRoot.{one-root-held}
use Rattle.published.specs.Families.Determined.{KnownNode, root}
use Rattle.published.proofs.Families.Determined.{determined_steady}
use Rattle.published.specs.OnlyOutcome.{OneOutcome}
use Rattle.published.proofs.OnlyOutcome.{one-outcome}
use Rattle.published.specs.Instances.RedRoot.{image, redden, tree, nodes, two_nodes}

pub red-root-is : program image ≡ some tree
unfolding computing
red-root-is = refl

legal : LegalRules tree.rules
unfolding computing
legal = program-legal image tree (bytes-by image refl) red-root-is refl

known : (i : ℕ) → i < 1 → KnownNode redden false i
known zero k = root 0 (omega arith) refl
known (suc i) k = absurd (omega arith)

steady : Calls (Steady OneRoot) (com_seq tree.rules tree.main)
unfolding com_seq
steady =
    determined_steady redden legal.0 (record { most = omega arith; old = omega arith })
    (record { nodes = known; edges = λ k l. absurd (omega arith) })

pub red-root-only : OneOutcome image tree OneRoot
red-root-only = one-outcome image tree red-root-is OneRoot steady

one-root : OneRoot (held base nodes [])
unfolding computing
one-root = one-root-held (host_in base nodes []) (omega arith)

pub red-root-one : (X : Outcome Graph) → ⟦◌⟧ Graph Applied (com_seq tree.rules tree.main) (held base nodes []) X
    → SameOutcome (graph (held base (live_node 1 1 (0 ∷ []) ++ plain_node) [])) X
unfolding computing
red-root-one =
    red-root-only.result base base-numbered (ours base) (ours-exported base) two_nodes (lendable two_nodes refl) refl one-root refl
