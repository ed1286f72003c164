-- The published program is-tree (programs/is-tree) on chains: at most one edge leaves each node, and at most one grey node is reached by
-- no edge from another node. There its rules init and push, which have many matches in general, have one at most.
-- Rests on Chains, Determined and Unchanged.
use Rattle.std.specs.Prelude.{◌≡◌, refl, true, List, [], ◌∷◌, ◌++◌, ℕ, zero, suc, ◌<◌, replicate}
use Rattle.std.proofs.Common.{sym, ◌∙◌, inl, inr, arith}
use Rattle.std.proofs.Math.Option.{some}
use Rattle.meaning.specs.Layout.{base, edge_length}
use Rattle.meaning.specs.Image.{Rule}
use Rattle.meaning.specs.Procedures.{program}
use Rattle.meaning.specs.Computing.{computing}
use Rattle.laws.specs.Undoing.{base-numbered}
use Rattle.demands.specs.Ours.{ours}
use Rattle.demands.proofs.Exported.{ours-exported}
use Rattle.demands.proofs.Cases.{lendable}
use Rattle.meaning.specs.ProvedSet.{live_node, free_node}
use Rattle.meaning.specs.Laws.Every.{Every}
use Rattle.laws.specs.Numbers.{bytes-by}
use Rattle.meaning.specs.Laws.Slots.{live_at_lt}
use Rattle.laws.specs.LegalCommands.{LegalRules}
use Rattle.laws.specs.LegalImage.{program-legal}
use Rattle.published.specs.Graphs.{Graph, HostGraph}
use Rattle.published.specs.RuleApplication.{Matches, Applies, Applied}
use Rattle.published.specs.Results.{host_in}
use Rattle.published.specs.Conformance.{held}
use Rattle.published.specs.Alike.{Calls}
use Rattle.published.specs.Semantics.{Outcome, graph, ⟦◌⟧, com_seq, in_order, followed}
use Rattle.published.specs.Steady.{SameOutcome, Steady}
use Rattle.published.proofs.Steady.{one-rule}
use Rattle.published.proofs.Families.OneRoot.{one-root-held, keeps-one-root, one-root-made}
use Rattle.published.specs.Families.OneOut.{EdgesKept}
use Rattle.published.proofs.Families.OneOut.{one-out-held, keeps-one-out}
use Rattle.published.specs.Families.Determined.{KnownNode, root, source, target, KnownEdge, leaving, reaching_deleted}
use Rattle.published.proofs.Families.Determined.{determined_agrees}
use Rattle.published.specs.Families.Unchanged.{Unchanged}
use Rattle.published.proofs.Families.Unchanged.{tests-steady}
use Rattle.published.specs.OnlyOutcome.{OneOutcome}
use Rattle.published.proofs.OnlyOutcome.{one-outcome}
use Rattle.published.specs.Instances.Chains.{Start, Chain, NoGrey}
use Rattle.published.proofs.Instances.Chains.{chain-iso, chain-kept}
use Rattle.published.specs.Instances.IsTree.{image, init, prune, push, verify, match, looped, tree, nodes, edges, two_nodes}

pub is-tree-is : program image ≡ some tree
unfolding computing
is-tree-is = refl

legal : LegalRules tree.rules
unfolding computing
legal = program-legal image tree (bytes-by image refl) is-tree-is refl

-- init: the grey node is the start.

init-start : (G : Graph) (m : Matches init G) → Start G (m.g.node 0)
init-start G m =
    record {
      node = m.g.nodes 0 (omega arith);
      grey = sym (m.compatible.node_marks 0 (omega arith) (λ e. omega arith));
      first = λ e k. let t = m.condition.0.all e k in omega (arith, t.1);
    }

init-node : (G : Graph) → Chain G → (m n : Matches init G) (i : ℕ) → i < 1 → m.g.node i ≡ n.g.node i
init-node G inv m n zero k = inv.one_start _ _ (init-start G m) (init-start G n)
init-node G inv m n (suc i) k = absurd (omega arith)

init-none : NoGrey init
init-none = ((λ e. omega arith, λ e. omega arith), tt)

init-keeps : (G H : Graph) → HostGraph G → Chain G → Applies init G H → Chain H
init-keeps G H host inv a =
    chain-kept init legal.0 init-none G H host a
    (one-root-made init legal.0 (omega arith) G H inv.one_root a (λ some v k e. absurd (inv.no_start _ v (init-start G a.match) k e)))
    (keeps-one-out init legal.0 (λ k l. absurd (omega arith)) G H host a inv.one_out) inv
    (λ v s. inl (0, omega arith, inv.one_start _ v (init-start G a.match) s))

init-steady : Steady Chain (init ∷ [])
init-steady =
    one-rule Chain init legal.0 init-keeps
    (λ G host inv m n. record { nodes = init-node G inv m n; edges = λ k l. absurd (omega arith) })

-- prune: the root, and the one edge that the dangling condition lets it have.

prune-edge : (k : ℕ) → k < 1 → KnownEdge prune true k
prune-edge zero l = reaching_deleted 0 (omega arith) (omega arith, omega arith) (λ j h e. omega arith) (root 1 (omega arith) refl)
prune-edge (suc k) l = absurd (omega arith)

prune-node : (i : ℕ) → i < 2 → KnownNode prune true i
prune-node zero k = source 0 0 (prune-edge 0 (omega arith)) refl
prune-node (suc zero) k = target 1 0 (prune-edge 0 (omega arith)) refl
prune-node (suc (suc i)) k = absurd (omega arith)

prune-none : NoGrey prune
prune-none = ((λ e. omega arith, λ e. omega arith), tt)

prune-keeps : (G H : Graph) → HostGraph G → Chain G → Applies prune G H → Chain H
prune-keeps G H host inv a =
    chain-kept prune legal.1.0 prune-none G H host a
    (keeps-one-root prune legal.1.0 (record { most = omega arith; old = omega arith }) G H host inv.one_root a)
    (keeps-one-out prune legal.1.0 (λ k l. absurd (omega arith)) G H host a inv.one_out) inv
    (λ v s. inr (_, a.match.g.nodes 1 (omega arith), sym (a.match.compatible.roots 1 (omega arith))))

prune-steady : Steady Chain (prune ∷ [])
prune-steady =
    one-rule Chain prune legal.1.0 prune-keeps (λ G host inv m n.
    determined_agrees prune true legal.1.0.holds G inv.one_root (λ e. inv.one_out) m n (record { nodes = prune-node; edges = prune-edge }))

-- push: the root, and the one edge that leaves it.

push-edge : (k : ℕ) → k < 1 → KnownEdge push true k
push-edge zero l = leaving 0 refl (omega arith) (root 0 (omega arith) refl)
push-edge (suc k) l = absurd (omega arith)

push-node : (i : ℕ) → i < 2 → KnownNode push true i
push-node zero k = source 0 0 (push-edge 0 (omega arith)) refl
push-node (suc zero) k = target 1 0 (push-edge 0 (omega arith)) refl
push-node (suc (suc i)) k = absurd (omega arith)

push-none : NoGrey push
push-none = ((λ e. omega arith, λ e. omega arith), ((λ e. omega arith, λ e. omega arith), tt))

push-edges : EdgesKept push
push-edges zero l = (omega arith, refl, omega arith)
push-edges (suc k) l = absurd (omega arith)

push-keeps : (G H : Graph) → HostGraph G → Chain G → Applies push G H → Chain H
push-keeps G H host inv a =
    chain-kept push legal.1.1.0 push-none G H host a
    (keeps-one-root push legal.1.1.0 (record { most = omega arith; old = omega arith }) G H host inv.one_root a)
    (keeps-one-out push legal.1.1.0 push-edges G H host a inv.one_out) inv
    (λ v s. inr (_, a.match.g.nodes 0 (omega arith), sym (a.match.compatible.roots 0 (omega arith))))

push-steady : Steady Chain (push ∷ [])
push-steady =
    one-rule Chain push legal.1.1.0 push-keeps (λ G host inv m n.
    determined_agrees push true legal.1.1.0.holds G inv.one_root (λ e. inv.one_out) m n (record { nodes = push-node; edges = push-edge }))

-- The others only test.

asks : (R : List Rule) → LegalRules R → Every Unchanged R → Steady Chain R
asks = tests-steady Chain chain-iso

steady : Calls (Steady Chain) (com_seq tree.rules tree.main)
unfolding com_seq in_order followed
steady = (
  init-steady,
  (
    (prune-steady, tt, (push-steady, asks (verify ∷ []) (legal.1.1.1.0, tt) (record { same = refl; whole = refl }, tt))),
    (asks (match ∷ looped ∷ []) legal.1.1.1.1 (record { same = refl; whole = refl }, (record { same = refl; whole = refl }, tt)), tt, tt),
  ),
)

pub is-tree-only : OneOutcome image tree Chain
is-tree-only = one-outcome image tree is-tree-is Chain steady

-- the second node is no start
the_start : (v : ℕ) → v < 2 → Start (held base nodes edges) v → v ≡ 0
unfolding computing
the_start zero k s = refl
the_start (suc zero) k s = absurd (s.first 0 (refl, refl))
the_start (suc (suc v)) k s = absurd (omega arith)

no-root : (w : ℕ) → w < 2 → ((held base nodes edges).node_label w).root ≡ 1 → ⊥
unfolding computing
no-root zero k e = omega arith
no-root (suc zero) k e = omega arith
no-root (suc (suc w)) k e = omega arith

chain : Chain (held base nodes edges)
unfolding computing
chain =
    record {
      one_root = one-root-held (host_in base nodes edges) (omega arith);
      one_out = one-out-held (host_in base nodes edges) (omega arith);
      one_start = λ v w s t. the_start v (live_at_lt (host_in base nodes edges).nodes v s.node) s ∙ sym (the_start w (live_at_lt (host_in base nodes edges).nodes w t.node) t);
      no_start = λ v w s k e. no-root w (live_at_lt (host_in base nodes edges).nodes w k) e;
    }

pub is-tree-one : (X : Outcome Graph) → ⟦◌⟧ Graph Applied (com_seq tree.rules tree.main) (held base nodes edges) X
    → SameOutcome (graph (held base (live_node 3 1 (0 ∷ []) ++ free_node) (replicate (edge_length base) 0))) X
unfolding computing
is-tree-one =
    is-tree-only.result base base-numbered (ours base) (ours-exported base) two_nodes (lendable two_nodes refl) refl chain refl
