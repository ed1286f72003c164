-- Why an invariant is needed: without one, that is, with one that always holds, RedRoot's rule is not steady. On a graph of two roots,
-- one of them with a loop, it gives two graphs that are not isomorphic. Rests on RedRoot and Unchanged.
use Rattle.std.specs.Prelude.{◌≡◌, true, [], ◌∷◌, eqb, length}
use Rattle.std.proofs.Math.Path.{refl}
use Rattle.std.proofs.Common.{sym, ap, arith, ltb-true, lt-ltb}
use Prim.Native.Nat.{ℕ, zero, suc, ◌<◌}
use Rattle.meaning.specs.Basics.{choose, either}
use Rattle.meaning.specs.Layout.{is_node_mark, is_edge_mark}
use Rattle.meaning.specs.References.{is_int}
use Rattle.meaning.specs.Laws.Tests.{choose_eq, choose_ne}
use Rattle.published.specs.Graphs.{NodeLabel, HostGraph, Iso}
use Rattle.published.specs.RuleApplication.{node_of, Instance, NodeInstance, mark_from, Matches, Applies, Applied}
use Rattle.published.specs.Steady.{Always, Steady}
use Rattle.published.proofs.Families.Unchanged.{nodes_stay_lem, edges_stay_lem}
use Rattle.published.specs.Instances.RedRoot.{redden}
use Rattle.published.specs.Instances.TwoRoots.{plain, red}

pub plain-host : HostGraph plain
unfolding is_node_mark is_edge_mark either
plain-host =
    record {
      sources = λ e k. refl;
      targets = λ e k. refl;
      most = 2;
      nodes_finite = λ v k. ltb-true v 2 k;
      edges_finite = λ e k. let h = ltb-true e 1 k in omega arith;
      node_marks = λ v k. refl;
      edge_marks = λ e k. refl;
      roots = λ v k. omega arith;
    }

-- the left side is one node
left-label : (j : ℕ) → j < 1 → Instance (λ v. []) (node_of redden.left j).label []
left-label zero k = refl
left-label (suc j) k = absurd (omega arith)

left-mark : (j : ℕ) → j < 1 → (node_of redden.left j).mark ≡ 0
left-mark zero k = refl
left-mark (suc j) k = absurd (omega arith)

left-root : (j : ℕ) → j < 1 → (node_of redden.left j).root ≡ 1
left-root zero k = refl
left-root (suc j) k = absurd (omega arith)

-- and has no variables
no-int : (v : ℕ) → is_int redden v ≡ true → length {A = ℕ} [] ≡ 1
no-int v e = let z : ◌≡◌ {A = ℕ} 0 1 = cc in absurd (omega arith)

module _ (i : ℕ) (h : i < 2) where
  abbrev match : Matches redden plain
  match =
      record {
        g =
            record {
              node = λ j. i;
              edge = λ k. 0;
              nodes = λ j k. lt-ltb i 2 h;
              edges = λ k l. absurd (omega arith);
              sources = λ k l. absurd (omega arith);
              targets = λ k l. absurd (omega arith);
            };
        injective = record { nodes = λ j k l n e. omega arith; edges = λ j k l n e. absurd (omega arith) };
        α = record { of = λ v. []; ints = no-int };
        compatible = record {
          nodes = λ j k. left-label j k;
          edges = λ k l. absurd (omega arith);
          node_marks = λ j k n. left-mark j k;
          edge_marks = λ k l n. absurd (omega arith);
          roots = λ j k. left-root j k;
        };
        dangling = λ e j k l n t. absurd (omega arith);
        condition = tt;
      }

  new-label : (j : ℕ) → j < 1
      → NodeInstance (λ v. []) (node_of redden.right j) (mark_from 0 (node_of redden.right j).mark) (node_of redden.right j).root ((red i).node_label i)
  unfolding choose
  new-label zero k = record { list = refl; root = refl; mark = choose_eq i i 1 0 refl }
  new-label (suc j) k = absurd (omega arith)

  applies : Applies redden plain (red i)
  applies =
      record {
        match = match;
        constructed = record {
          keep_node = λ v. v;
          new_node = λ j. j;
          keep_edge = λ e. e;
          new_edge = λ k. k;
          nodes = nodes_stay_lem redden refl refl plain match.g;
          edges = edges_stay_lem redden refl refl plain match.g;
          kept_sources = λ e s. refl;
          kept_targets = λ e s. refl;
          new_sources = λ k l. absurd (omega arith);
          new_targets = λ k l. absurd (omega arith);
          kept_labels = λ v s n.
              let e : choose {A = ℕ} (eqb v i) 1 0 ≡ 0 = choose_ne v i 1 0 (λ q. n 0 (omega arith) (sym q)) in
              λ d. record { mark = e d; root = 1; list = [] };
          interface_labels = λ j k. new-label j k;
          new_labels = λ j k l. absurd (omega arith);
          kept_edge_labels = λ e s. refl;
          new_edge_labels = λ k l. absurd (omega arith);
        };
      }

pub not-steady : Steady Always (redden ∷ []) → ⊥
not-steady steady =
    let here : (i : ℕ) → i < 2 → Applied (redden ∷ []) plain (red i)
    = λ i h. record { place = 0; listed = omega arith; applies = applies i h } in
    let f : Iso (red 0) (red 1) = steady.one plain (red 0) (red 1) plain-host tt (here 0 (omega arith)) (here 1 (omega arith)) in
    let s : 0 ≡ f.node 0 = f.sources 0 refl in
    let l = ap (λ (l : NodeLabel). l.mark) (f.node_labels 0 refl) in
    let a : choose {A = ℕ} (eqb (f.node 0) 1) 1 0 ≡ 0 = choose_ne (f.node 0) 1 1 0 (λ e. omega arith) in
    let b : choose {A = ℕ} (eqb 0 0) 1 0 ≡ 1 = choose_eq 0 0 1 0 refl in
    omega arith
