-- Which slots are candidates for an item; what the clauses of a candidate's test are in the words of a trial; and the test in its
-- steps, by the slot alone and beside the items placed. Rests on agreeing's Candidates and on the meaning's FirstMatch.
use mathlib.Core.Path.{◌≡◌, refl, sym, ◌∙◌, ap}
use mathlib.Core.Bool.{Bool, true, false}
use mathlib.Core.List.{List, [], ◌∷◌, ◌++◌}
use Prim.Native.Nat.{ℕ, ◌+◌, ◌-◌, ◌<◌, ◌≤◌}
use native.Mathlib.Omega.{arith}
use lib.ListN.{length, get_or, drop}
use Rattle.std.specs.Prelude.{Option, Some, None}
use Rattle.std.specs.Option.{MatchOption, unwrap_or}
use Rattle.meaning.specs.Basics.{both, clauses, all, absent}
use Rattle.meaning.specs.Layout.{Host, live_at}
use Rattle.meaning.specs.Image.{Rule}
use Rattle.meaning.specs.Matching.{node_at, edge_at, left_node, left_edge, left_nodes, left_edges, total, node_slot, roots_agree}
use Rattle.meaning.specs.FirstMatch.{marks_agree, label_agrees, tests_so_far, joins, linked, can_go, node_fits, edge_fits, fits}
use Rattle.meaning.specs.Assigned.{assigned}
use Rattle.meaning.specs.Laws.Tests.{choose_lt, choose_le}
use Rattle.meaning.specs.Laws.Loops.{clauses-fail, first_of, of-first, of-second}
use Rattle.laws.specs.Assignment.{label-node, label-edge}
use Rattle.plan.specs.Plan.{label_of, edges_at, nodes_at}
use Rattle.agreeing.specs.Placed.{Known, label_at}
use Rattle.agreeing.specs.Candidates.{Candidate, Guessed, Likely}
use Rattle.fitting.specs.Fitting.{joins_at, NodeLike, NextLike}

-- Items and slots for them.

-- a node by the plan is a left node
pub left-node : {bs plan : List ℕ} {i : ℕ} (w : Known bs plan) → i < get_or plan nodes_at 0 → i < left_nodes w.rule
left-node w k = omega (arith, w.planned.laid.items.nodes)

module _ {h : Host} {bs plan : List ℕ} (w : Known bs plan) (i c : ℕ) where
  abbrev pub node_candidate : i < get_or plan nodes_at 0 → c < length h.nodes → Candidate h bs plan i c
  node_candidate k s =
      let n = left-node w k in
      record {
        rule = w.rule;
        planned = w.planned;
        there = omega arith;
        inside = of-first (λ m. c < m) i (left_nodes w.rule) (length h.nodes) (length h.edges) n s;
      }

  abbrev pub edge_candidate : get_or plan nodes_at 0 ≤ i → i < get_or plan nodes_at 0 + get_or plan edges_at 0 → c < length h.edges → Candidate h bs plan i c
  edge_candidate j k s =
      let n : left_nodes w.rule ≤ i = omega (arith, w.planned.laid.items.nodes) in
      record {
        rule = w.rule;
        planned = w.planned;
        there = omega (arith, w.planned.laid.items.nodes, w.planned.laid.items.edges);
        inside = of-second (λ m. c < m) i (left_nodes w.rule) (length h.nodes) (length h.edges) n s;
      }

-- Clauses, from what is in hand.

pub marks-are : (a b m n : ℕ) (g : Bool) → m ≡ a → n ≡ b → g ≡ marks_agree m n → marks_agree a b ≡ g
marks-are a b m n g p q e = sym (rw (p, q) at e)

pub roots-are : (mode preserving : Bool) (a b m n : ℕ) (g : Bool) → preserving ≡ mode → m ≡ a → n ≡ b → g ≡ roots_agree preserving m n
    → roots_agree mode a b ≡ g
roots-are mode preserving a b m n g o p q e = sym (rw (o, p, q) at e)

module _ {bs plan : List ℕ} (w : Known bs plan) where
  pub joins-are : (h : Host) (p : List ℕ) (i s t c : ℕ) (g : Bool) → s ≡ node_slot p (left_edge w.rule (i - left_nodes w.rule)).source
      → t ≡ node_slot p (left_edge w.rule (i - left_nodes w.rule)).target → g ≡ joins_at h w.rule (i - get_or plan nodes_at 0) s t c
      → joins h w.rule p (i - left_nodes w.rule) c ≡ g
  unfolding joins
  joins-are h p i s t c g e f q =
      let n : get_or plan nodes_at 0 ≡ left_nodes w.rule = w.planned.laid.items.nodes in
      sym (rw (n, e, f) at q)

  pub absent-is : (l : List ℕ) (c : ℕ) (g : Bool) → g ≡ absent c (drop (get_or plan nodes_at 0) l) → absent c (drop (left_nodes w.rule) l) ≡ g
  absent-is l c g q = let n : get_or plan nodes_at 0 ≡ left_nodes w.rule = w.planned.laid.items.nodes in sym (rw n at q)

never : {A : Type 0} → false ≡ true → A
never e = let z : ◌≡◌ {A = ℕ} 0 1 = cc in absurd (omega arith)

both_end : (t : Bool) → both t true ≡ t
unfolding both
both_end true = refl
both_end false = refl

-- where all clauses but two hold, those two are left
node-clauses : (a b c d e f g t : Bool) → a ≡ true → b ≡ true → c ≡ true → d ≡ true → f ≡ true → g ≡ true
    → clauses (a ∷ b ∷ c ∷ d ∷ e ∷ f ∷ g ∷ t ∷ []) ≡ both e t
unfolding clauses both
node-clauses a b c d e f g t p q u v x y = rw (p, q, u, v, x, y) (ap (both e) (both_end t))

edge-clauses : (a b e t : Bool) → a ≡ true → b ≡ true → clauses (a ∷ b ∷ e ∷ t ∷ []) ≡ both e t
unfolding clauses both
edge-clauses a b e t p q = rw (p, q) (ap (both e) (both_end t))

-- A node's slot alone.

module _ (h : Host) (r : Rule) (sort i c : ℕ) where
  unlike : ((p : List ℕ) → node_fits h r p i c ≡ false) → NodeLike h r sort i c false
  unlike f = record { no = λ e. f; live = λ e. never e; marks = λ e. never e; roots = λ e. never e; label = λ e. never e }

  pub free-slot : live_at h.nodes c ≡ false → NodeLike h r sort i c false
  unfolding node_fits
  free-slot e = unlike (λ p. sym (clauses-fail _ 0 (omega arith) e))

  pub other-mark : marks_agree (left_node r i).mark (node_at h c).mark ≡ false → NodeLike h r sort i c false
  unfolding node_fits
  other-mark e = unlike (λ p. sym (clauses-fail _ 2 (omega arith) e))

  pub other-root : roots_agree r.preserving (left_node r i).root (node_at h c).root ≡ false → NodeLike h r sort i c false
  unfolding node_fits
  other-root e = unlike (λ p. sym (clauses-fail _ 3 (omega arith) e))

  pub like-label : i < left_nodes r → live_at h.nodes c ≡ true → marks_agree (left_node r i).mark (node_at h c).mark ≡ true
      → roots_agree r.preserving (left_node r i).root (node_at h c).root ≡ true → (b : Bool) → Guessed r sort (label_of r i) (label_at h (left_nodes r) i c) b
      → NodeLike h r sort i c b
  unfolding node_fits
  like-label k l m t b q =
      let g = first_of (λ a. Guessed r sort (label_of r i) a b) i (left_nodes r) (node_at h c).label (edge_at h c).label k q in
      record {
        no = λ e p. sym (clauses-fail _ 4 (omega arith) (rw (label-node r i k) at (g.no e (assigned h r (p ++ c ∷ [])))));
        live = λ e. l;
        marks = λ e. m;
        roots = λ e. t;
        label = λ e. rw e at g;
      }

-- the first slot that is like it, or else the end: those before it do not fit
pub next_is : (h : Host) (r : Rule) (sort i c n y : ℕ) (o : Option ℕ)
    → MatchOption o ((k : ℕ) → c ≤ k → k < n → NodeLike h r sort i k false)
    (λ x. (c ≤ x) × (x < n) × NodeLike h r sort i x true × ((k : ℕ) → c ≤ k → k < x → NodeLike h r sort i k false))
    → y ≡ unwrap_or o n → NextLike h r sort i c n y
next_is h r sort i c n y None m e =
    rw e (record { onward = λ k. k; inside = λ k. omega arith; passed = λ x j k. (m x j k).no refl; like = λ k. absurd (omega arith) })
next_is h r sort i c n y (Some x) m e =
    rw e (record { onward = λ k. m.0; inside = λ k. omega (arith, m.1); passed = λ z j k. (m.3 z j k).no refl; like = λ k. m.2 })

-- A slot beside the items placed.

module _ (h : Host) (r : Rule) (sort : ℕ) (p : List ℕ) (i c : ℕ) (n : length p ≡ i) where
  unlikely : fits h r p c ≡ false → Likely h r sort p i c false
  unlikely e = record { no = λ q. e; rest = λ q. never q; label = λ q. never q }

  module _ (k : i < left_nodes r) where
    fits-node : fits h r p c ≡ node_fits h r p i c
    unfolding fits
    fits-node = choose_lt (length p) (left_nodes r) _ _ (omega arith) ∙ rw n

    pub used-node : absent c p ≡ false → Likely h r sort p i c false
    unfolding node_fits
    used-node e = unlikely (fits-node ∙ sym (clauses-fail _ 1 (omega arith) e))

    pub unlinked : all (linked h r (p ++ c ∷ []) i) (left_edges r) ≡ false → Likely h r sort p i c false
    unfolding node_fits
    unlinked e = unlikely (fits-node ∙ sym (clauses-fail _ 5 (omega arith) e))

    pub likely_node : NodeLike h r sort i c true → absent c p ≡ true → all (linked h r (p ++ c ∷ []) i) (left_edges r) ≡ true
        → (b : Bool) → b ≡ can_go h r i c → Likely h r sort p i c b
    unfolding node_fits
    likely_node l a f b g =
        record {
          no = λ e. fits-node ∙ sym (clauses-fail _ 6 (omega arith) (sym g ∙ e));
          rest = λ e.
              fits-node
              ∙ node-clauses _ _ _ _ _ _ _ _ (l.live refl) a (l.marks refl) (l.roots refl) f (sym g ∙ e)
              ∙ rw (label-node r i k, choose_lt i (left_nodes r) (node_at h c).label (edge_at h c).label k);
          label = λ e. of-first (λ m. Guessed r sort (label_of r i) m true) i (left_nodes r) (node_at h c).label (edge_at h c).label k (l.label refl);
        }

  module _ (k : left_nodes r ≤ i) (l : i < total r) where
    fits-edge : fits h r p c ≡ edge_fits h r p (i - left_nodes r) c
    unfolding fits
    fits-edge = choose_le (length p) (left_nodes r) _ _ (omega arith) ∙ rw n

    -- its label clause, in the words of the item
    edge-agrees : label_agrees r (assigned h r (p ++ c ∷ [])) (left_edge r (i - left_nodes r)).label (edge_at h c).label
        ≡ label_agrees r (assigned h r (p ++ c ∷ [])) (label_of r i) (label_at h (left_nodes r) i c)
    edge-agrees =
        let s : left_nodes r + (i - left_nodes r) ≡ i = omega arith in
        let m = rw s at (label-edge r (i - left_nodes r) (omega arith)) in
        rw (m, choose_le i (left_nodes r) (node_at h c).label (edge_at h c).label k)

    pub unjoined : joins h r p (i - left_nodes r) c ≡ false → Likely h r sort p i c false
    unfolding edge_fits
    unjoined e = unlikely (fits-edge ∙ sym (clauses-fail _ 0 (omega arith) e))

    pub used-edge : absent c (drop (left_nodes r) p) ≡ false → Likely h r sort p i c false
    unfolding edge_fits
    used-edge e = unlikely (fits-edge ∙ sym (clauses-fail _ 1 (omega arith) e))

    pub likely_edge : joins h r p (i - left_nodes r) c ≡ true → absent c (drop (left_nodes r) p) ≡ true → (b : Bool)
        → Guessed r sort (label_of r i) (label_at h (left_nodes r) i c) b → Likely h r sort p i c b
    unfolding edge_fits
    likely_edge j a b g =
        record {
          no = λ e. fits-edge ∙ sym (clauses-fail _ 2 (omega arith) (edge-agrees ∙ g.no e _));
          rest = λ e. fits-edge ∙ edge-clauses _ _ _ _ j a ∙ ap (λ (t : Bool). both t (tests_so_far h r (p ++ c ∷ []))) edge-agrees;
          label = λ e. rw e at g;
        }
