-- The matches of a rule are the placements that the search accepts: each slot fits behind those before it, and the whole is
-- complete. The tests so far, the links and the count of edges at a node that goes drop no match. Rests on the meaning's Matching
-- and FirstMatch, and on Counting, Assignment and Decided.
use Prim.Native.Nat.{ℕ, suc, ◌+◌, ◌-◌, ◌<◌, ◌≤◌, max}
use Rattle.std.specs.Prelude.{◌≡◌, refl, ◌⊎◌, ◌↔◌, Bool, List, [], ◌∷◌, eqb, get_or, take, drop}
use Rattle.std.proofs.Math.Path.{sym, ap}
use Rattle.std.proofs.Common.{◌∙◌, inl, inr, get_or-drop}
use Rattle.std.proofs.Math.Logic.{⊎_map}
use Rattle.std.proofs.Math.Bool.{true, not}
use native.Mathlib.Omega.{arith}
use Rattle.std.proofs.Math.Decide.{dec_lt, ℕ_discrete}
use borrow.Author.Tests.{eq-eqb, eqb-true, lt-ltb, le-leb, leb-true, not-true}
use Rattle.std.proofs.Math.ListN.{length, length-drop}
use Rattle.std.proofs.Math.Seq.{take-suc, get_or-take, length-take-le}
use Rattle.meaning.specs.Basics.{either, clauses, all, every, absent}
use Rattle.meaning.specs.Layout.{Host, live_at}
use Rattle.meaning.specs.Image.{Rule, is_type}
use Rattle.meaning.specs.Tags.{any_mark}
use Rattle.meaning.specs.References.{rule_holds}
use Rattle.meaning.specs.Matching.{Match, MarksAgree, node_at, edge_at, left_node, left_edge, left_nodes, left_edges, node_slot, edge_slot, edge_runs, test_holds, edge_touches, roots_agree}
use Rattle.meaning.specs.Assigned.{assigned}
use Rattle.meaning.specs.FirstMatch.{marks_agree, label_agrees, tests_so_far, joins, linked, left_touches, can_go, node_fits, edge_fits, fits, candidates, touches_gone, dangles, complete}
use Rattle.meaning.specs.Laws.Tests.{not_so, both_true, both_yes, both_of, choose_lt, choose_le, choose_eq, choose_ne, absent-true, absent-of, absent-false, exists-of, exists-true, exists-false, exists-no, all_of, either_left, either-right, either_true, clauses-true}
use Rattle.meaning.specs.Laws.Slots.{live_at_lt}
use Rattle.laws.specs.Counting.{count-from}
use Rattle.laws.specs.References.{ends}
use Rattle.laws.specs.Assignment.{Labelled, LabelsAgree, labelled, agreed}
use Rattle.laws.specs.Decided.{tests_so_far_lem, tests_same}

-- numbers below n whose values are apart, where these are not
pub apart-same : (f : ℕ → ℕ) (n i j : ℕ) → ((i j : ℕ) → i < j → j < n → f i ≡ f j → ⊥) → i < n → j < n → f i ≡ f j → i ≡ j
apart-same f n i j a k l e = at (dec_lt i j) (dec_lt j i)
  where
    at : Dec (i < j) → Dec (j < i) → i ≡ j
    at (yes u) d = absurd (a i j u l e)
    at (no u) (yes v) = absurd (a j i v k (sym e))
    at (no u) (no v) = omega arith

-- one of two equations
equal-true : (a b c d : ℕ) → either (eqb a b) (eqb c d) ≡ true → (a ≡ b) ⊎ (c ≡ d)
equal-true a b c d e = ⊎_map (eqb-true a b) (eqb-true c d) (either_true _ _ e)

equal_of : (a b c d : ℕ) → (a ≡ b) ⊎ (c ≡ d) → either (eqb a b) (eqb c d) ≡ true
equal_of a b c d (inl e) = either_left _ _ (eq-eqb a b e)
equal_of a b c d (inr e) = either-right _ _ (eq-eqb c d e)

module _ (h : Host) (r : Rule) (p : List ℕ) (size : length p ≡ left_nodes r + left_edges r) (holds : rule_holds r ≡ true) where
  -- The slots before that of left node i, and the edge slots before that of left edge k.

  nodes-before : (i : ℕ) → i < left_nodes r → length (take i p) ≡ i
  nodes-before i k = length-take-le i p (omega arith)

  abbrev edges_before : ℕ → List ℕ
  edges_before k = drop (left_nodes r) (take (left_nodes r + k) p)

  edges-before : (k : ℕ) → k < left_edges r → length (edges_before k) ≡ k
  edges-before k j = rw (length-drop, length-take-le (left_nodes r + k) p (omega arith)) (omega arith)

  edge-before : (k i : ℕ) → i < k → get_or (edges_before k) i 0 ≡ edge_slot r p i
  edge-before k i l =
      get_or-drop (left_nodes r) (take (left_nodes r + k) p) i 0 ∙ get_or-take (left_nodes r + k) p (left_nodes r + i) 0 (omega arith)

  -- What is asked of a slot at a level, in terms of the whole placement.

  abbrev node_clauses : ℕ → List Bool
  node_clauses i =
      live_at h.nodes (node_slot p i)
      ∷ absent (node_slot p i) (take i p)
      ∷ marks_agree (left_node r i).mark (node_at h (node_slot p i)).mark
      ∷ roots_agree r.preserving (left_node r i).root (node_at h (node_slot p i)).root
      ∷ label_agrees r (assigned h r (take (suc i) p)) (left_node r i).label (node_at h (node_slot p i)).label
      ∷ all (linked h r (take (suc i) p) i) (left_edges r)
      ∷ can_go h r i (node_slot p i)
      ∷ tests_so_far h r (take (suc i) p)
      ∷ []

  abbrev edge_clauses : ℕ → List Bool
  edge_clauses k =
      joins h r p k (edge_slot r p k)
      ∷ absent (edge_slot r p k) (edges_before k)
      ∷ label_agrees r (assigned h r (take (suc (left_nodes r + k)) p)) (left_edge r k).label (edge_at h (edge_slot r p k)).label
      ∷ tests_so_far h r (take (suc (left_nodes r + k)) p)
      ∷ []

  node-fits : (i : ℕ) → i < left_nodes r → fits h r (take i p) (node_slot p i) ≡ clauses (node_clauses i)
  unfolding fits node_fits
  node-fits i k =
      let s = nodes-before i k in
      choose_lt (length (take i p)) (left_nodes r) _ _ (omega arith) ∙ rw (s, take-suc p i 0 (omega arith))

  -- the slots of left edge k's ends are in a front of the placement as in the whole
  joins-take : (n k x : ℕ) → (left_edge r k).source < n → (left_edge r k).target < n → joins h r (take n p) k x ≡ joins h r p k x
  unfolding joins
  joins-take n k x s t = rw (get_or-take n p (left_edge r k).source 0 s, get_or-take n p (left_edge r k).target 0 t)

  edge-fits : (k : ℕ) → k < left_edges r → fits h r (take (left_nodes r + k) p) (edge_slot r p k) ≡ clauses (edge_clauses k)
  unfolding fits edge_fits
  edge-fits k j =
      let n : ℕ = left_nodes r + k in
      let s : length (take n p) ≡ n = length-take-le n p (omega arith) in
      let e : length (take n p) - left_nodes r ≡ k = omega arith in
      let d = ends r holds k j in
      choose_le (length (take n p)) (left_nodes r) _ _ (omega arith)
      ∙ rw (e, take-suc p n 0 (omega arith), joins-take n k (edge_slot r p k) (omega (arith, d.0)) (omega (arith, d.1)))

  node-candidates : (i : ℕ) → i < left_nodes r → candidates h r (take i p) ≡ length h.nodes
  unfolding candidates
  node-candidates i k = choose_lt (length (take i p)) (left_nodes r) _ _ (omega (arith, nodes-before i k))

  edge-candidates : (k : ℕ) → k < left_edges r → candidates h r (take (left_nodes r + k) p) ≡ length h.edges
  unfolding candidates
  edge-candidates k j =
      let n : ℕ = left_nodes r + k in
      choose_le (length (take n p)) (left_nodes r) _ _ (omega (arith, length-take-le n p (omega arith)))

  -- the test of a level, behind the slots before it
  abbrev Level : ℕ → Type 0
  Level i = (get_or p i 0 < candidates h r (take i p)) × (fits h r (take i p) (get_or p i 0) ≡ true)

  -- From the levels to the match.

  module _ (level : (i : ℕ) → i < length p → Level i) (full : complete h r p ≡ true) where
    node : (i : ℕ) → i < left_nodes r → (n : ℕ) → get_or (node_clauses i) n true ≡ true
    node i k = clauses-true (node_clauses i) (sym (node-fits i k) ∙ (level i (omega arith)).1)

    edge : (k : ℕ) → k < left_edges r → (n : ℕ) → get_or (edge_clauses k) n true ≡ true
    edge k j = clauses-true (edge_clauses k) (sym (edge-fits k j) ∙ (level (left_nodes r + k) (omega arith)).1)

    joined : (k : ℕ) → k < left_edges r
        → (live_at h.edges (edge_slot r p k) ≡ true) × ((edge_at h (edge_slot r p k)).source ≡ node_slot p (left_edge r k).source)
        × ((edge_at h (edge_slot r p k)).target ≡ node_slot p (left_edge r k).target)
        × MarksAgree (left_edge r k).mark (edge_at h (edge_slot r p k)).mark
    unfolding joins edge_runs marks_agree
    joined k j =
        let t = both_true _ _ (edge k j 0) in
        let u = both_true _ _ t.0 in
        let v = both_true _ _ u.1 in
        (u.0, eqb-true _ _ v.0, eqb-true _ _ v.1, equal-true (left_edge r k).mark any_mark (left_edge r k).mark _ t.1)

    not-dangling : (x j : ℕ) → live_at h.edges x ≡ true → r.interface ≤ j → j < left_nodes r
        → ((edge_at h x).source ≡ node_slot p j) ⊎ ((edge_at h x).target ≡ node_slot p j)
        → (k : ℕ) × (k < left_edges r) × (edge_slot r p k ≡ x)
    unfolding complete dangles touches_gone edge_touches
    not-dangling x j l i k t =
        let none-dangles = exists-false _ _ (not-true _ (both_true _ _ full).0) x (live_at_lt h.edges x l) in
        let touched = equal_of (edge_at h x).source (node_slot p j) (edge_at h x).target (node_slot p j) t in
        let gone = exists-of (touches_gone h r p x) (left_nodes r) j k (both_of _ _ (le-leb _ _ i) (both_of _ _ l touched)) in
        let a = absent-false x (drop (left_nodes r) p) (sym (both_yes _ _ gone) ∙ none-dangles) in
        (a.0, omega (arith, a.1, length-drop (left_nodes r) p), sym (get_or-drop (left_nodes r) p a.0 0) ∙ a.2)

    rule4 : Labelled h r p (assigned h r p)
    rule4 = labelled h r p size holds (record { nodes = λ i k. node i k 4; edges = λ k j. edge k j 2 })

    placed : Match h r p
    unfolding complete marks_agree
    placed = record {
      size = size;
      nodes_live = λ i k. node i k 0;
      edges_live = λ k j. (joined k j).0;
      nodes_apart = λ i j k l e. absent-true _ _ (node j l 1) i (omega (arith, nodes-before j l)) (get_or-take j p i 0 k ∙ e);
      edges_apart = λ i j k l e. absent-true _ _ (edge j l 1) i (omega (arith, edges-before j l)) (edge-before j i k ∙ e);
      node_marks = λ i k. equal-true (left_node r i).mark any_mark (left_node r i).mark _ (node i k 2);
      edge_marks = λ k j. (joined k j).3;
      roots = λ i k. node i k 3;
      sources = λ k j. (joined k j).1;
      targets = λ k j. (joined k j).2;
      assignment = assigned h r p;
      ints = rule4.ints;
      node_labels = rule4.nodes;
      edge_labels = rule4.edges;
      dangling = not-dangling;
      tests = (both_true _ _ full).1;
    }

  -- From the match to the levels.

  module _ (types : every is_type r.variables ≡ true) (m : Match h r p) where
    rule_4 : Labelled h r p m.assignment
    rule_4 = record { ints = m.ints; nodes = m.node_labels; edges = m.edge_labels }

    agree : LabelsAgree h r p
    agree = agreed h r p size holds types m.assignment rule_4

    tested : every (test_holds h p (assigned h r p)) r.tests ≡ true
    tested = tests_same h r p size holds types m.assignment rule_4 m.tests

    joins_of : (k : ℕ) → k < left_edges r → joins h r p k (edge_slot r p k) ≡ true
    unfolding joins edge_runs marks_agree
    joins_of k j =
        both_of _ _ (both_of _ _ (m.edges_live k j) (both_of _ _ (eq-eqb _ _ (m.sources k j)) (eq-eqb _ _ (m.targets k j))))
        (equal_of (left_edge r k).mark any_mark (left_edge r k).mark _ (m.edge_marks k j))

    -- the host edges of a match link its nodes
    links : (i : ℕ) → i < left_nodes r → all (linked h r (take (suc i) p) i) (left_edges r) ≡ true
    unfolding linked
    links i l = all_of _ (left_edges r) (λ k j. at k j (ℕ_discrete (max (left_edge r k).source (left_edge r k).target) i))
      where
        at : (k : ℕ) → k < left_edges r → Dec (max (left_edge r k).source (left_edge r k).target ≡ i)
            → linked h r (take (suc i) p) i k ≡ true
        at k j (no d) = choose_ne _ _ _ _ d
        at k j (yes d) =
            choose_eq (max (left_edge r k).source (left_edge r k).target) i _ _ d
            ∙ exists-of _ _ (edge_slot r p k) (live_at_lt h.edges _ (m.edges_live k j))
            (joins-take (suc i) k (edge_slot r p k) (omega arith) (omega arith) ∙ joins_of k j)

    same-node : (i j : ℕ) → i < left_nodes r → j < left_nodes r → node_slot p i ≡ node_slot p j → i ≡ j
    same-node i j = apart-same (node_slot p) (left_nodes r) i j m.nodes_apart

    left-touches : (i k x : ℕ) → i < left_nodes r → k < left_edges r → edge_slot r p k ≡ x
        → ((edge_at h x).source ≡ node_slot p i) ⊎ ((edge_at h x).target ≡ node_slot p i) → left_touches h r i k ≡ true
    unfolding left_touches
    left-touches i k x l j q t =
        let d = ends r holds k j in
        equal_of (left_edge r k).source i (left_edge r k).target i
        (⊎_map
        (λ e. same-node (left_edge r k).source i d.0 l (sym (m.sources k j) ∙ ap (λ (y : ℕ). (edge_at h y).source) q ∙ e))
        (λ e. same-node (left_edge r k).target i d.1 l (sym (m.targets k j) ∙ ap (λ (y : ℕ). (edge_at h y).target) q ∙ e)) t)

    -- each host edge at the slot of a node that goes is the slot of a left edge at that node
    can-go : (i : ℕ) → i < left_nodes r → can_go h r i (node_slot p i) ≡ true
    unfolding can_go edge_touches left_touches
    can-go i l = at (dec_lt i r.interface)
      where
        at : Dec (i < r.interface) → can_go h r i (node_slot p i) ≡ true
        at (yes d) = either_left _ _ (lt-ltb _ _ d)
        at (no d) = either-right _ _ (le-leb _ _ (count-from _ (left_touches h r i) (edge_slot r p) (length h.edges) (left_edges r) from))
          where
            from : (x : ℕ) → x < length h.edges → edge_touches h (node_slot p i) x ≡ true
                → (k : ℕ) × (k < left_edges r) × (left_touches h r i k ≡ true) × (edge_slot r p k ≡ x)
            from x j e =
                let t = both_true _ _ e in
                let g = m.dangling x i t.0 (omega arith) l (equal-true _ _ _ _ t.1) in
                (g.0, g.1, left-touches i g.0 x l g.1 g.2 (equal-true _ _ _ _ t.1), g.2)

    node-level : (i : ℕ) → i < left_nodes r → Level i
    unfolding clauses marks_agree
    node-level i k = (
      rw (node-candidates i k) (live_at_lt h.nodes _ (m.nodes_live i k)),
      node-fits i k
          ∙ both_of _ _ (m.nodes_live i k)
          (both_of _ _ (absent-of _ _ (λ j l e. let f : j < i = omega (arith, nodes-before i k) in m.nodes_apart j i f k (sym (get_or-take i p j 0 f) ∙ e)))
          (both_of _ _ (equal_of (left_node r i).mark any_mark (left_node r i).mark _ (m.node_marks i k))
          (both_of _ _ (m.roots i k)
          (both_of _ _ (agree.nodes i k)
          (both_of _ _ (links i k)
          (both_of _ _ (can-go i k)
          (both_of _ _ (tests_so_far_lem h r p size holds (suc i) (omega arith) tested) refl))))))),
    )

    edge-level : (k : ℕ) → k < left_edges r → Level (left_nodes r + k)
    unfolding clauses
    edge-level k j = (
      rw (edge-candidates k j) (live_at_lt h.edges _ (m.edges_live k j)),
      edge-fits k j
          ∙ both_of _ _ (joins_of k j)
          (both_of _ _ (absent-of _ _ (λ i l e. let f : i < k = omega (arith, edges-before k j) in m.edges_apart i k f j (sym (edge-before k i f) ∙ e)))
          (both_of _ _ (agree.edges k j)
          (both_of _ _ (tests_so_far_lem h r p size holds (suc (left_nodes r + k)) (omega arith) tested) refl))),
    )

    full : complete h r p ≡ true
    unfolding complete dangles touches_gone edge_touches
    full = both_of _ _ (ap not (exists-no _ _ (λ x k. not_so _ (no_edge x)))) tested
      where
        no_edge : (x : ℕ) → dangles h r p x ≡ true → ⊥
        no_edge x e =
            let t = both_true _ _ e in
            let j = exists-true _ _ t.0 in
            let u = both_true _ _ j.2 in
            let v = both_true _ _ u.1 in
            let g = m.dangling x j.0 v.0 (leb-true _ _ u.0) j.1 (equal-true _ _ _ _ v.1) in
            absent-true x _ t.1 g.0 (omega (arith, g.1, length-drop (left_nodes r) p)) (get_or-drop (left_nodes r) p g.0 0 ∙ g.2)

    levels : (i : ℕ) → i < length p → Level i
    levels i k = at (dec_lt i (left_nodes r))
      where
        at : Dec (i < left_nodes r) → Level i
        at (yes l) = node-level i l
        at (no l) =
            let e : left_nodes r + (i - left_nodes r) ≡ i = omega arith in
            rw e at (edge-level (i - left_nodes r) (omega arith))

-- the search accepts p
pub record Accepted (h : Host) (r : Rule) (p : List ℕ) : Type 0 where
  pub size : length p ≡ left_nodes r + left_edges r
  pub level : (i : ℕ) → i < length p → (get_or p i 0 < candidates h r (take i p)) × (fits h r (take i p) (get_or p i 0) ≡ true)
  pub full : complete h r p ≡ true

pub matched : (h : Host) (r : Rule) → rule_holds r ≡ true → every is_type r.variables ≡ true
    → (p : List ℕ) → Match h r p ↔ Accepted h r p
matched h r holds types p = (
  λ m. record { size = m.size; level = levels h r p m.size holds types m; full = full h r p m.size holds types m },
  λ a. placed h r p a.size holds a.level a.full,
)
