-- Document 003's Figure 3, on the left: a rule that makes a node a root, in both modes. On a graph whose nodes are all roots it has no
-- match where it reflects roots; where it preserves them it has one, and its result is the graph that was there, as 3.3 says: its
-- effect could be to do nothing. Rests on OneResult, Existence and Unchanged, and for a graph of two roots on TwoRoots.
use Rattle.std.specs.Prelude.{◌≡◌, refl, Bool, true, false, [], length}
use Rattle.std.proofs.Math.Path.{sym}
use Prim.Native.Nat.{ℕ, zero, suc, ◌<◌}
use Rattle.std.proofs.Common.{arith}
use Rattle.meaning.specs.Basics.{choose, both}
use Rattle.meaning.specs.References.{is_int, rule_holds}
use Rattle.meaning.specs.Computing.{computing}
use Rattle.published.specs.Graphs.{Graph, Node, HostGraph, Iso}
use Rattle.published.specs.RuleApplication.{node_of, NodeInstance, mark_from, root_from, Constructed, Matches, Applies}
use Rattle.published.proofs.OneResult.{one-result}
use Rattle.published.proofs.Existence.{applies_somewhere}
use Rattle.published.proofs.Families.Unchanged.{nodes_stay_lem, edges_stay_lem}
use Rattle.published.specs.Instances.TwoRoots.{plain}
use Rattle.published.proofs.Instances.TwoRoots.{plain-host}
use Rattle.published.specs.Instances.BothModes.{makes_root, AllRoots}

pub holds : (preserving : Bool) → rule_holds (makes_root preserving) ≡ true
unfolding computing
holds preserving = refl

-- Reflecting: no match.

pub reflecting_none : (G : Graph) → AllRoots G → Matches (makes_root false) G → ⊥
reflecting_none G all m =
    omega (arith, m.compatible.roots 0 (omega arith), all _ (m.g.nodes 0 (omega arith)))

-- Preserving: a match at each unmarked, unlabelled node.

no-int : (v : ℕ) → is_int (makes_root true) v ≡ true → length {A = ℕ} [] ≡ 1
no-int v e = let z : ◌≡◌ {A = ℕ} 0 1 = cc in absurd (omega arith)

module _ (G : Graph) (v : ℕ) (node : Node G v) (mark : (G.node_label v).mark ≡ 0) (list : (G.node_label v).list ≡ []) where
  left-mark : (i : ℕ) → i < 1 → (node_of (makes_root true).left i).mark ≡ (G.node_label v).mark
  left-mark zero k = sym mark
  left-mark (suc i) k = absurd (omega arith)

  left-list : (i : ℕ) → i < 1 → (node_of (makes_root true).left i).label ≡ []
  left-list zero k = refl
  left-list (suc i) k = absurd (omega arith)

  left-root : (i : ℕ) → i < 1 → (node_of (makes_root true).left i).root ≡ 1 → (G.node_label v).root ≡ 1
  left-root zero k e = absurd (omega arith)
  left-root (suc i) k e = absurd (omega arith)

  preserving-match : Matches (makes_root true) G
  preserving-match =
      record {
        g =
            record {
              node = λ i. v;
              edge = λ k. 0;
              nodes = λ i k. node;
              edges = λ k l. absurd (omega arith);
              sources = λ k l. absurd (omega arith);
              targets = λ k l. absurd (omega arith);
            };
        injective = record { nodes = λ i j k l e. omega arith; edges = λ i j k l e. absurd (omega arith) };
        α = record { of = λ v. []; ints = no-int };
        compatible = record {
          nodes = λ i k. rw (left-list i k) list;
          edges = λ k l. absurd (omega arith);
          node_marks = λ i k n. left-mark i k;
          edge_marks = λ k l n. absurd (omega arith);
          roots = left-root;
        };
        dangling = λ e j k l n t. absurd (omega arith);
        condition = tt;
      }

  pub preserving-some : (H : Graph) × Applies (makes_root true) G H
  preserving-some = applies_somewhere (makes_root true) (holds true) G preserving-match

-- And a result that is the graph itself.

module _ (G : Graph) (all : AllRoots G) (m : Matches (makes_root true) G) where
  label : (i : ℕ) → i < 1
      → NodeInstance m.α.of (node_of (makes_root true).right i) (mark_from (G.node_label (m.g.node i)).mark (node_of (makes_root true).right i).mark)
      (root_from true (node_of (makes_root true).left i).root (G.node_label (m.g.node i)).root (node_of (makes_root true).right i).root)
      (G.node_label (m.g.node i))
  unfolding choose both
  label zero k =
      record {
        list = m.compatible.nodes 0 k;
        root = all _ (m.g.nodes 0 k);
        mark = sym (m.compatible.node_marks 0 k (λ e. omega arith));
      }
  label (suc i) k = absurd (omega arith)

  itself : Constructed (makes_root true) G m.g m.α.of G
  itself =
      record {
        keep_node = λ v. v;
        new_node = λ j. j;
        keep_edge = λ e. e;
        new_edge = λ k. k;
        nodes = nodes_stay_lem (makes_root true) refl refl G m.g;
        edges = edges_stay_lem (makes_root true) refl refl G m.g;
        kept_sources = λ e s. refl;
        kept_targets = λ e s. refl;
        new_sources = λ k l. absurd (omega arith);
        new_targets = λ k l. absurd (omega arith);
        kept_labels = λ v s n. refl;
        interface_labels = label;
        new_labels = λ j k l. absurd (omega arith);
        kept_edge_labels = λ e s. refl;
        new_edge_labels = λ k l. absurd (omega arith);
      }

pub preserving-nothing : (G H : Graph) → HostGraph G → AllRoots G → Applies (makes_root true) G H → Iso G H
preserving-nothing G H host all a = one-result (makes_root true) (holds true) G host a.match G H (itself G all a.match) a.constructed

-- so on two roots: an application, and the same two roots after it
pub two-roots_stay : (H : Graph) × Applies (makes_root true) plain H × Iso plain H
two-roots_stay =
    let t = preserving-some plain 0 refl refl refl in
    (t.0, t.1, preserving-nothing plain t.0 plain-host (λ v k. refl) t.1)
