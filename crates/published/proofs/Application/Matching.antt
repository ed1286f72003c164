-- Matches in a host's graph: a match of meaning's is a published match, and a published match gives a match of meaning's.
-- It holds of a legal rule and a legal host: their atoms are words, and so are those of each test's operands.
-- Rests on Application/Conditions and SameMatch.
use Rattle.std.specs.Prelude.{ℕ, zero, suc, ◌+◌, ◌-◌, ◌<◌, ◌≤◌, refl, ◌⊎◌, ◌↔◌, Bool, true, false, List, [], ◌∷◌, ◌++◌, eqb, length, get_or}
use Rattle.std.proofs.Math.Path.{◌≡◌}
use Rattle.std.proofs.Common.{sym, ◌∙◌, ap, inl, inr, arith, length-append, get_or-append-add}
use Rattle.std.proofs.Math.Decide.{dec_lt, ℕ_discrete}
use borrow.Author.Tests.{ltb-true, eqb-true, eq-eqb}
use Rattle.std.proofs.Math.ListN.{get_or-append}
use Rattle.meaning.specs.Basics.{every, both, either, absent, concat}
use Rattle.meaning.specs.Numbers.{whole}
use Rattle.meaning.specs.Layout.{Slot, free, live, Node, Edge, Host, is_live}
use Rattle.meaning.specs.Image.{Rule}
use Rattle.meaning.specs.Tags.{any_mark}
use Rattle.meaning.specs.References.{operand_names, condition_operands, labels, names, condition_nodes, is_plain, test_nodes_exist, rule_holds}
use Rattle.meaning.specs.Matching.{node_in, edge_in, Assignment, atoms_of, instance, atom_of, edge_at, left_node, left_edge, left_nodes, left_edges, node_slot, edge_slot, test_holds, MarksAgree, roots_agree, Match}
use Rattle.meaning.specs.Assigned.{is_variable, assigned}
use Rattle.meaning.specs.FirstMatch.{has, first_with}
use Rattle.meaning.specs.Laws.Tests.{either_true, clauses-true}
use Rattle.meaning.specs.Laws.Every.{Every, Every-true, Every-of, Every-all, Every-then, Every-with}
use Rattle.laws.specs.References.{OfVariables, variables-then, left-plain, tests_left, label-plain, ends}
use Rattle.laws.specs.Assignment.{labels_length, label-node, label-edge, Labelled, labelled, agreed}
use Rattle.laws.specs.Decided.{first-with, tests_same}
use Rattle.laws.specs.Levels.{apart-same}
use Rattle.meaning.specs.Laws.Slots.{OnLive}
use Rattle.laws.specs.Hosts.{LegalNode, LegalEdge, LegalHost}
use Rattle.laws.specs.Layout.{Words}
use Rattle.laws.specs.Values.{LegalRule, assigned-words}
use Rattle.meaning.specs.declared.Layout.{Layout}
use Rattle.meaning.specs.declared.Element.{Element}
use Rattle.meaning.specs.declared.Element.TheVariants.{Constant, Variable, Sum, Difference}
use Rattle.published.specs.Graphs.{Graph, graph_of}
use Rattle.published.specs.RuleApplication.{Premorphism, RootsGo, Constructed, Matches, Applies}
use Rattle.published.proofs.SameMatch.{constructed-same}
use Rattle.published.proofs.Application.Values.{left-formed}
use Rattle.published.proofs.Application.Conditions.{atom-word, plain-instance, instance-plain, test-holds}
use Rattle.published.specs.Application.Matching.{premorphism}

-- What the references say.

module _ (r : Rule) (holds : rule_holds r ≡ true) where
  node-plain : (i : ℕ) → i < left_nodes r → Every (λ x. is_plain x ≡ true) (left_node r i).label
  node-plain i k = rw (label-node r i k) at (label-plain r holds i)

  edge-plain : (k : ℕ) → k < left_edges r → Every (λ x. is_plain x ≡ true) (left_edge r k).label
  edge-plain k j = rw (label-edge r k j) at (label-plain r holds (left_nodes r + k))

  -- tests name left nodes
  test-nodes : Every (λ t. Every (λ a. a < left_nodes r) (condition_nodes t.condition)) r.tests
  unfolding rule_holds test_nodes_exist
  test-nodes =
      Every-true _ _ (λ t e. Every-true _ _ (λ a q. ltb-true _ _ q) (condition_nodes t.condition) e) r.tests (clauses-true _ holds 3)

-- The placement of a premorphism: the slots of the left nodes, then those of the left edges.

-- the values of a function at the numbers below n
listed : (ℕ → ℕ) → ℕ → List ℕ
listed f zero = []
listed f (suc n) = f 0 ∷ listed (λ i. f (suc i)) n

listed-length : (f : ℕ → ℕ) (n : ℕ) → length (listed f n) ≡ n
unfolding listed
listed-length f zero = refl
listed-length f (suc n) = ap suc (listed-length (λ i. f (suc i)) n)

listed_at : (f : ℕ → ℕ) (n i : ℕ) → i < n → get_or (listed f n) i 0 ≡ f i
unfolding listed
listed_at f zero i h = absurd (omega arith)
listed_at f (suc n) zero h = refl
listed_at f (suc n) (suc i) h = listed_at (λ i. f (suc i)) n i (omega arith)

pub placement : (r : Rule) (G : Graph) → Premorphism r.left G → List ℕ
placement r G g = listed g.node (left_nodes r) ++ listed g.edge (left_edges r)

module _ (r : Rule) (G : Graph) (g : Premorphism r.left G) where
  placement-size : length (placement r G g) ≡ left_nodes r + left_edges r
  unfolding placement
  placement-size = rw (length-append, listed-length g.node (left_nodes r), listed-length g.edge (left_edges r))

  slot-node : (i : ℕ) → i < left_nodes r → node_slot (placement r G g) i ≡ g.node i
  unfolding placement
  slot-node i h =
      let l = listed-length g.node (left_nodes r) in
      get_or-append (listed g.node (left_nodes r)) (listed g.edge (left_edges r)) 0 i (omega arith)
      ∙ listed_at g.node (left_nodes r) i h

  slot-edge : (k : ℕ) → k < left_edges r → edge_slot r (placement r G g) k ≡ g.edge k
  unfolding placement
  slot-edge k h =
      rw (listed-length g.node (left_nodes r)) at (get_or-append-add (listed g.node (left_nodes r)) (listed g.edge (left_edges r)) k 0)
      ∙ listed_at g.edge (left_edges r) k h

-- A variable of L has words where the labels that L goes to have.

Words-front : (a b : List ℕ) → Words (a ++ b) → Words a
Words-front [] b h i = omega arith
Words-front (x ∷ a) b h zero = h 0
Words-front (x ∷ a) b h (suc i) = Words-front a b (λ j. h (suc j)) i

Words-behind : (a b : List ℕ) → Words (a ++ b) → Words b
Words-behind [] b h = h
Words-behind (x ∷ a) b h = Words-behind a b (λ j. h (suc j))

variable-words : (α : Assignment) (v : ℕ) (l : List Element) → Words (instance α l) → has v l ≡ true → Words (α v)
unfolding has is_variable either atoms_of concat
variable-words α v [] w e = let z : ◌≡◌ {A = ℕ} 0 1 = cc in absurd (omega arith)
variable-words α v (Constant c ∷ l) w e = variable-words α v l (λ i. w (suc i)) e
variable-words α v (Variable u ∷ l) w e = at (either_true (eqb u v) (has v l) e) (variable-words α v l (Words-behind (α u) (instance α l) w))
  where
    at : (eqb u v ≡ true) ⊎ (has v l ≡ true) → (has v l ≡ true → Words (α v)) → Words (α v)
    at (inl q) f = rw (eqb-true u v q) at (Words-front (α u) (instance α l) w)
    at (inr q) f = f q
variable-words α v (Sum a b ∷ l) w e = variable-words α v l w e
variable-words α v (Difference a b ∷ l) w e = variable-words α v l w e

module _ (L : Layout) where
  node-words : (s : Slot Node) → OnLive (LegalNode L) s → is_live s ≡ true → Words (node_in s).label
  unfolding is_live node_in
  node-words free a l = let z : ◌≡◌ {A = ℕ} 0 1 = cc in absurd (omega arith)
  node-words (live n) a l = a.words

  edge-words : (s : Slot Edge) → OnLive (LegalEdge L) s → is_live s ≡ true → Words (edge_in s).label
  unfolding is_live edge_in
  edge-words free a l = let z : ◌≡◌ {A = ℕ} 0 1 = cc in absurd (omega arith)
  edge-words (live e) a l = a.words

-- Root flags agree where the published ones go together.

roots-agree : (preserving : Bool) (left host : ℕ) → left ≤ 1 → RootsGo preserving left host → roots_agree preserving left host ≡ true
unfolding roots_agree both either
roots-agree false left host h e = eq-eqb left host e
roots-agree true zero host h e = refl
roots-agree true (suc zero) host h e = rw (e refl)
roots-agree true (suc (suc n)) host h e = absurd (omega arith)

roots-go : (preserving : Bool) (left host : ℕ) → roots_agree preserving left host ≡ true → RootsGo preserving left host
unfolding roots_agree both either
roots-go false left host e = eqb-true left host e
roots-go true left host e = λ q. at q (either_true _ _ e)
  where
    at : left ≡ 1 → (eqb left 0 ≡ true) ⊎ (eqb left host ≡ true) → host ≡ 1
    at q (inl z) = absurd (omega (arith, eqb-true left 0 z))
    at q (inr s) = sym (eqb-true left host s) ∙ q

module _ (h : Host) (r : Rule) (rule : LegalRule r) (L : Layout) (legal : LegalHost L h) where
  abbrev holds : rule_holds r ≡ true
  holds = rule.holds

  -- the atoms of a test's operands are words where the variables have words
  operand-words : (α : Assignment) → Every (λ t. OfVariables (λ v. Words (α v)) t) r.tests
      → Every (λ t. Every (λ o. atom_of α o < whole) (condition_operands t.condition)) r.tests
  operand-words α =
      Every-with _ _ _ (λ t l w. Every-with _ _ _ (λ o m v. atom-word α o m v) (condition_operands t.condition) l w) r.tests rule.tests

  -- a published match gives a match
  module _ (m : Matches r (graph_of h)) where
    abbrev α : Assignment
    α = m.α.of

    label-words : (i : ℕ) → i < length (labels r.left) → Words (instance α (get_or (labels r.left) i []))
    label-words i k = at (dec_lt i (left_nodes r))
      where
        on-node : (i : ℕ) → i < left_nodes r → Words (instance α (get_or (labels r.left) i []))
        on-node i j =
            rw (label-node r i j, ← (instance-plain α (left_node r i).label _ (node-plain r holds i j) (m.compatible.nodes i j)))
            (node-words L (get_or h.nodes (m.g.node i) free) (legal.nodes (m.g.node i)) (m.g.nodes i j))

        on_edge : (k : ℕ) → k < left_edges r → Words (instance α (get_or (labels r.left) (left_nodes r + k) []))
        on_edge k j =
            rw (label-edge r k j, ← (instance-plain α (left_edge r k).label _ (edge-plain r holds k j) (m.compatible.edges k j)))
            (edge-words L (get_or h.edges (m.g.edge k) free) (legal.edges (m.g.edge k)) (m.g.edges k j))

        at : Dec (i < left_nodes r) → Words (instance α (get_or (labels r.left) i []))
        at (yes j) = on-node i j
        at (no j) =
            let f : left_nodes r + (i - left_nodes r) ≡ i = omega arith in
            rw f at (on_edge (i - left_nodes r) (omega (arith, labels_length r)))

    left-words : (v : ℕ) → absent v (names r.left) ≡ false → Words (α v)
    left-words v e =
        let t = first-with v (labels r.left) (left-plain r holds) e in
        variable-words α v (get_or (labels r.left) (first_with v (labels r.left)) []) (label-words (first_with v (labels r.left)) t.0) t.1

    test_words : Every (λ t. OfVariables (λ v. Words (α v)) t) r.tests
    test_words = Every-then _ _ (λ t o. variables-then _ _ left-words t o) r.tests (tests_left r holds)

    -- a test names left nodes, and operands whose atoms are words
    test_known : Every (λ t. Every (λ a. a < left_nodes r) (condition_nodes t.condition) × Every (λ o. atom_of α o < whole) (condition_operands t.condition))
        r.tests
    test_known = Every-with _ _ _ (λ t n o. (n, o)) r.tests (test-nodes r holds) (operand-words α test_words)

    abbrev p : List ℕ
    p = placement r (graph_of h) m.g

    node : (i : ℕ) → i < left_nodes r → node_slot p i ≡ m.g.node i
    node = slot-node r (graph_of h) m.g

    edge : (k : ℕ) → k < left_edges r → edge_slot r p k ≡ m.g.edge k
    edge = slot-edge r (graph_of h) m.g

    marks : (left mark : ℕ) → ((left ≡ any_mark → ⊥) → left ≡ mark) → MarksAgree left mark
    marks left mark f = at (ℕ_discrete left any_mark)
      where
        at : Dec (left ≡ any_mark) → MarksAgree left mark
        at (yes e) = inl e
        at (no e) = inr (f e)

    touching : (x j : ℕ) → j < left_nodes r → ((edge_at h x).source ≡ node_slot p j) ⊎ ((edge_at h x).target ≡ node_slot p j)
        → ((edge_at h x).source ≡ m.g.node j) ⊎ ((edge_at h x).target ≡ m.g.node j)
    touching x j k (inl e) = inl (e ∙ node j k)
    touching x j k (inr e) = inr (e ∙ node j k)

    pub match-of : Match h r p
    match-of =
        record {
          size = placement-size r (graph_of h) m.g;
          nodes_live = λ i k. rw (node i k) (m.g.nodes i k);
          edges_live = λ k j. rw (edge k j) (m.g.edges k j);
          nodes_apart = λ i j k l e.
              omega (arith, m.injective.nodes i j (omega arith) l (sym (node i (omega arith)) ∙ e ∙ node j l));
          edges_apart = λ i j k l e.
              omega (arith, m.injective.edges i j (omega arith) l (sym (edge i (omega arith)) ∙ e ∙ edge j l));
          node_marks = λ i k. rw (node i k) (marks _ _ (m.compatible.node_marks i k));
          edge_marks = λ k j. rw (edge k j) (marks _ _ (m.compatible.edge_marks k j));
          roots = λ i k. rw (node i k) (roots-agree r.preserving _ _ (left-formed r rule i).root (m.compatible.roots i k));
          sources = λ k j. let t = ends r holds k j in rw (edge k j, node (left_edge r k).source t.0) (m.g.sources k j);
          targets = λ k j. let t = ends r holds k j in rw (edge k j, node (left_edge r k).target t.1) (m.g.targets k j);
          assignment = m.α.of;
          ints = m.α.ints;
          node_labels = λ i k. rw (node i k) (instance-plain m.α.of (left_node r i).label _ (node-plain r holds i k) (m.compatible.nodes i k));
          edge_labels = λ k j. rw (edge k j) (instance-plain m.α.of (left_edge r k).label _ (edge-plain r holds k j) (m.compatible.edges k j));
          dangling = λ x j l i k e.
              let t = m.dangling x j l i k (touching x j k e) in
              (t.0, t.1, edge t.0 t.1 ∙ t.2);
          tests =
              Every-of _ r.tests
              (Every-with _ _ _ (λ t n s.
              (test-holds h p m.g.node m.α.of t
              (Every-then _ _ (λ a l. sym (node a l)) (condition_nodes t.condition) n.0) n.1).1 s) r.tests test_known m.condition);
        }

  -- a match is a published match, with the assignment that its placement gives
  module _ (p : List ℕ) (m : Match h r p) where
    labels-are : Labelled h r p (assigned h r p)
    labels-are =
        labelled h r p m.size holds
        (agreed h r p m.size holds rule.types m.assignment (record { ints = m.ints; nodes = m.node_labels; edges = m.edge_labels }))

    tests : every (test_holds h p (assigned h r p)) r.tests ≡ true
    tests =
        tests_same h r p m.size holds rule.types m.assignment (record { ints = m.ints; nodes = m.node_labels; edges = m.edge_labels }) m.tests

    unmarked : (left mark : ℕ) → MarksAgree left mark → (left ≡ any_mark → ⊥) → left ≡ mark
    unmarked left mark (inl e) n = absurd (n e)
    unmarked left mark (inr e) n = e

    known : Every (λ t. OfVariables (λ v. Words (assigned h r p v)) t) r.tests
    known =
        Every-all _ (λ t. Every-all _ (λ o. Every-all _ (assigned-words L h legal r p) (operand_names o)) (condition_operands t.condition)) r.tests

    pub match_published : Matches r (graph_of h)
    match_published =
        record {
          g = premorphism h r p m;
          injective = record {
            nodes = λ i j. apart-same (node_slot p) (left_nodes r) i j m.nodes_apart;
            edges = λ i j. apart-same (edge_slot r p) (left_edges r) i j m.edges_apart;
          };
          α = record { of = assigned h r p; ints = labels-are.ints };
          compatible = record {
            nodes = λ i k. rw (labels-are.nodes i k) (plain-instance (assigned h r p) (left_node r i).label (node-plain r holds i k));
            edges = λ k j. rw (labels-are.edges k j) (plain-instance (assigned h r p) (left_edge r k).label (edge-plain r holds k j));
            node_marks = λ i k. unmarked _ _ (m.node_marks i k);
            edge_marks = λ k j. unmarked _ _ (m.edge_marks k j);
            roots = λ i k. roots-go r.preserving _ _ (m.roots i k);
          };
          dangling = m.dangling;
          condition =
              Every-with _ _ _ (λ t o e.
              (test-holds h p (node_slot p) (assigned h r p) t (Every-all _ (λ a. refl) (condition_nodes t.condition)) o).0 e) r.tests
              (operand-words (assigned h r p) known) (Every-true _ _ (λ t e. e) r.tests tests);
        }

    -- and what is constructed with it is what the rule gives
    pub match-applies : (H : Graph) → Constructed r (graph_of h) (premorphism h r p m) (assigned h r p) H → Applies r (graph_of h) H
    unfolding match_published
    match-applies H c = record { match = match_published; constructed = c }

  -- so a rule has a match in a host exactly where it has a published one in the host's graph
  pub no-match : ((p : List ℕ) → Match h r p → ⊥) ↔ (Matches r (graph_of h) → ⊥)
  no-match = (λ n m. n (p m) (match-of m), λ n p m. n (match_published p m))

  -- the placement of a published match m has m's premorphism, so what is constructed with the one is constructed with the other
  pub constructed-back : (m : Matches r (graph_of h)) (H : Graph)
      → Constructed r (graph_of h) (premorphism h r (p m) (match-of m)) (assigned h r (p m)) H → Constructed r (graph_of h) m.g m.α.of H
  unfolding match_published
  constructed-back m H c =
      constructed-same r (record { holds = holds; types = rule.types }) (graph_of h) (match_published (p m) (match-of m)) m
      (record { nodes = node m; edges = edge m }) H c
