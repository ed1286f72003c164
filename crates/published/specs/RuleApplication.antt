-- Rule application as document 000 defines it (Definitions 2.4 to 2.7), over abstract graphs. Nothing here computes: there are
-- no slots, no search and no order. Rests on Graphs and Integers, and on meaning's Image for rules.
-- A rule ⟨L ← K → R, c⟩ is a Rule: L is r.left, R is r.right, the nodes of K are the numbers below r .interface, and c asks
-- for all of r.tests. Nodes and edges of L and R are named by their numbers.
-- As in document 000, integers have no bound and labels no greatest length, so that every sum and difference has a value and
-- every label an instance. A rule that is not preserving has its morphisms, which reflect rootedness (its 2.3); a preserving one has
-- those that preserve it alone, as GP 2 had before (document 003's 3.3).
-- What differs, as document 01 decides:
-- the mark any (magenta in document 000's 2.1) goes with every mark, none included, and on the right keeps the mark; document
-- 000 has it match arbitrary marks, and does not speak of items without one.
-- What of document 000 is not modelled: strings and characters with their types and the type atom; products, quotients, and
-- degrees and lengths in labels; of conditions all but a list of tests, each negated or not, that are all to be true: an edge
-- between two nodes, of any label and mark, an in-degree or out-degree, = and < of two integers.
use Rattle.std.specs.Prelude.{◌≡◌, ◌⊎◌, Bool, true, false, List, [], ◌∷◌, ◌++◌, ℕ, ◌<◌, ◌≤◌, length, get_or, eqb, ltb, ℤ, ◌+ℤ◌, ◌-ℤ◌}
use Rattle.std.specs.Int.Signed.{lt_z}
use Rattle.meaning.specs.Basics.{choose, both}
use Rattle.meaning.specs.Image.{RuleNode, RuleEdge, RuleGraph, Rule}
use Rattle.meaning.specs.Tags.{any_mark}
use Rattle.meaning.specs.References.{is_int}
use Rattle.meaning.specs.Commands.{rule_at}
use Rattle.meaning.specs.Laws.Every.{Every}
use Rattle.meaning.specs.declared.Operand.{Operand}
use Rattle.meaning.specs.declared.Operand.TheVariants.{Constant as constant_operand, Variable as variable_operand}
use Rattle.meaning.specs.declared.Element.{Element}
use Rattle.meaning.specs.declared.Element.TheVariants.{Constant, Variable, Sum, Difference}
use Rattle.meaning.specs.declared.Condition.{Condition}
use Rattle.meaning.specs.declared.Condition.TheVariants.{Edge as edge_between, InDegree, OutDegree, Equal, Less}
use Rattle.meaning.specs.declared.Test.{Test}
use Rattle.published.specs.Integers.{named, atom}
use Rattle.published.specs.Graphs.{NodeLabel, EdgeLabel, Graph, Node, Edge}

-- The nodes and edges of a rule's graph, by number.

abbrev pub node_of : RuleGraph → ℕ → RuleNode
node_of L i = get_or L.nodes i (record { mark = 0; root = 0; label = [] })

abbrev pub edge_of : RuleGraph → ℕ → RuleEdge
edge_of L k = get_or L.edges k (record { mark = 0; source = 0; target = 0; label = [] })

-- Definition 2.4: a premorphism g from L to G consists of two functions that preserve sources and targets.
pub record Premorphism (L : RuleGraph) (G : Graph) : Type 0 where
  pub node : ℕ → ℕ
  pub edge : ℕ → ℕ
  pub nodes : (i : ℕ) → i < length L.nodes → Node G (node i)
  pub edges : (k : ℕ) → k < length L.edges → Edge G (edge k)
  pub sources : (k : ℕ) → k < length L.edges → G.source (edge k) ≡ node (edge_of L k).source
  pub targets : (k : ℕ) → k < length L.edges → G.target (edge k) ≡ node (edge_of L k).target

pub record Injective (L : RuleGraph) (G : Graph) (g : Premorphism L G) : Type 0 where
  pub nodes : (i j : ℕ) → i < length L.nodes → j < length L.nodes → g.node i ≡ g.node j → i ≡ j
  pub edges : (i j : ℕ) → i < length L.edges → j < length L.edges → g.edge i ≡ g.edge j → i ≡ j

-- Definition 2.5: an assignment gives a list variable a list and an int variable an integer, which is a list of length one.
pub record Assignment (r : Rule) : Type 0 where
  pub of : ℕ → List ℕ
  pub ints : (v : ℕ) → is_int r v ≡ true → length (of v) ≡ 1

-- The instance of an expression under α: variables are replaced by their values, and the result is evaluated. No expression
-- names nodes, so that the instance does not hang on g.

module _ (α : ℕ → List ℕ) where
  -- the integer that an operand stands for: that of a constant, or of the one atom of an int variable
  abbrev pub integer : Operand → ℤ
  integer (constant_operand c) = named c
  integer (variable_operand v) = named (get_or (α v) 0 0)

  -- element x evaluates to the list l
  abbrev pub Evaluates : Element → List ℕ → Type 0
  Evaluates (Constant c) l = l ≡ c ∷ []
  Evaluates (Variable v) l = l ≡ α v
  Evaluates (Sum a b) l = l ≡ atom (integer a +ℤ integer b) ∷ []
  Evaluates (Difference a b) l = l ≡ atom (integer a -ℤ integer b) ∷ []

  -- l is the instance of the expression x₁ : .. : xₙ
  abbrev pub Instance : List Element → List ℕ → Type 0
  Instance [] l = l ≡ []
  Instance (x ∷ xs) l = (a b : List ℕ) × Evaluates x a × Instance xs b × (l ≡ a ++ b)

-- The root flags of a node of L and of the node that it goes to. Reflecting (document 000's 2.3): a root goes to a root, any other
-- node to one that is none. Preserving (document 003's 3.3): a root goes to a root.
abbrev pub RootsGo : Bool → ℕ → ℕ → Type 0
RootsGo false left host = left ≡ host
RootsGo true left host = left ≡ 1 → host ≡ 1

-- Definition 2.6: g and α are compatible if the label of g(u) is the instance of the label of u, for all nodes and edges u of
-- L: its list, its mark unless that is any, and whether it is a root, as the rule's mode asks.
pub record Compatible (preserving : Bool) (L : RuleGraph) (G : Graph) (g : Premorphism L G) (α : ℕ → List ℕ) : Type 0 where
  pub nodes : (i : ℕ) → i < length L.nodes → Instance α (node_of L i).label (G.node_label (g.node i)).list
  pub edges : (k : ℕ) → k < length L.edges → Instance α (edge_of L k).label (G.edge_label (g.edge k)).list
  pub node_marks : (i : ℕ) → i < length L.nodes → ((node_of L i).mark ≡ any_mark → ⊥)
      → (node_of L i).mark ≡ (G.node_label (g.node i)).mark
  pub edge_marks : (k : ℕ) → k < length L.edges → ((edge_of L k).mark ≡ any_mark → ⊥)
      → (edge_of L k).mark ≡ (G.edge_label (g.edge k)).mark
  pub roots : (i : ℕ) → i < length L.nodes → RootsGo preserving (node_of L i).root (G.node_label (g.node i)).root

-- Step 2 of Definition 2.7, the dangling condition: an edge of G that is incident to a node of g(V_L − V_K) is in g(E_L).

abbrev pub Incident : Graph → ℕ → ℕ → Type 0
Incident G e v = (G.source e ≡ v) ⊎ (G.target e ≡ v)

abbrev pub Dangling : (r : Rule) (G : Graph) → Premorphism r.left G → Type 0
Dangling r G g =
    (e j : ℕ) → Edge G e → r.interface ≤ j → j < length r.left.nodes → Incident G e (g.node j)
    → (k : ℕ) × (k < length r.left.edges) × (g.edge k ≡ e)

-- Step 3: the condition is true. The tests are document 01's.

-- there are exactly n numbers of which P holds: those of a list without repetition
pub record Exactly (n : ℕ) (P : ℕ → Type 0) : Type 0 where
  pub list : List ℕ
  pub size : length list ≡ n
  pub apart : (i j : ℕ) → i < n → j < n → get_or list i 0 ≡ get_or list j 0 → i ≡ j
  pub each : (i : ℕ) → i < n → P (get_or list i 0)
  pub all : (x : ℕ) → P x → (i : ℕ) × (i < n) × (get_or list i 0 ≡ x)

-- edge e leaves node v; it arrives there. A loop does both
abbrev pub Leaves : Graph → ℕ → ℕ → Type 0
Leaves G v e = Edge G e × (G.source e ≡ v)

abbrev pub Arrives : Graph → ℕ → ℕ → Type 0
Arrives G v e = Edge G e × (G.target e ≡ v)

module _ (G : Graph) (node : ℕ → ℕ) (α : ℕ → List ℕ) where
  -- the value of a condition under g and α is true
  abbrev pub Holds : Condition → Type 0
  Holds (edge_between a b) = (e : ℕ) × Edge G e × (G.source e ≡ node a) × (G.target e ≡ node b)
  Holds (InDegree a n) = Exactly n (Arrives G (node a))
  Holds (OutDegree a n) = Exactly n (Leaves G (node a))
  Holds (Equal a b) = integer α a ≡ integer α b
  Holds (Less a b) = lt_z (integer α a) (integer α b) ≡ true

  -- of a test that is negated, and of one that is not
  abbrev pub TestTrue : Bool → Condition → Type 0
  TestTrue true c = Holds c → ⊥
  TestTrue false c = Holds c

  -- c^{g,α} is true: each of its tests is
  abbrev pub True : List Test → Type 0
  True c = Every (λ t. TestTrue t.negated t.condition) c

-- Step 4: the construction of H.

-- (a) D is G without the edges of g(E_L) and without the nodes of g(V_L) − g(V_K); g is injective, so that these are the nodes
-- of g(V_L − V_K). The nodes and the edges of D:
module _ (r : Rule) (G : Graph) (g : Premorphism r.left G) where
  pub record StaysNode (v : ℕ) : Type 0 where
    pub node : Node G v
    pub kept : (j : ℕ) → r.interface ≤ j → j < length r.left.nodes → g.node j ≡ v → ⊥

  pub record StaysEdge (e : ℕ) : Type 0 where
    pub edge : Edge G e
    pub kept : (k : ℕ) → k < length r.left.edges → g.edge k ≡ e → ⊥

-- C is the disjoint union A + B, where f takes the elements of A into C and h those of B
pub record Union (A B C : ℕ → Type 0) (f h : ℕ → ℕ) : Type 0 where
  pub from_a : (x : ℕ) → A x → C (f x)
  pub from_b : (x : ℕ) → B x → C (h x)
  pub apart_a : (x y : ℕ) → A x → A y → f x ≡ f y → x ≡ y
  pub apart_b : (x y : ℕ) → B x → B y → h x ≡ h y → x ≡ y
  pub apart : (x y : ℕ) → A x → B y → f x ≡ h y → ⊥
  pub all : (z : ℕ) → C z → ((x : ℕ) × A x × (f x ≡ z)) ⊎ ((x : ℕ) × B x × (h x ≡ z))

-- the label l is the instance of a right node's label, with the mark m and the root flag t
pub record NodeInstance (α : ℕ → List ℕ) (n : RuleNode) (m t : ℕ) (l : NodeLabel) : Type 0 where
  pub list : Instance α n.label l.list
  pub root : l.root ≡ t
  pub mark : l.mark ≡ m

-- the label l is the instance of a right edge's label
pub record EdgeInstance (α : ℕ → List ℕ) (e : RuleEdge) (l : EdgeLabel) : Type 0 where
  pub list : Instance α e.label l.list
  pub mark : l.mark ≡ e.mark

-- the mark of a right node, where any is the mark that the node has in G
abbrev pub mark_from : ℕ → ℕ → ℕ
mark_from before mark = choose (eqb mark any_mark) before mark

-- the root flag of a node of K in H: that of R, but a preserving rule leaves a node that is a root neither in L nor in R as it was
-- in G
abbrev pub root_from : Bool → ℕ → ℕ → ℕ → ℕ
root_from false left before right = right
root_from true left before right = choose (both (eqb left 0) (eqb right 0)) before right

-- a right node in H: a node of K is the node of D that g takes it to, any other is new
abbrev pub placed : Rule → (ℕ → ℕ) → (ℕ → ℕ) → (ℕ → ℕ) → ℕ → ℕ
placed r node keep new j = choose (ltb j r.interface) (keep (node j)) (new j)

-- H is constructed from G by g and α; `keep` and `new` say where the nodes and edges of D and of R are in H
pub record Constructed (r : Rule) (G : Graph) (g : Premorphism r.left G) (α : ℕ → List ℕ) (H : Graph) : Type 0 where
  pub keep_node : ℕ → ℕ
  pub new_node : ℕ → ℕ
  pub keep_edge : ℕ → ℕ
  pub new_edge : ℕ → ℕ
  -- (b) V_H = V_D + (V_R − V_K) and E_H = E_D + E_R
  pub nodes : Union (StaysNode r G g) (λ j. (r.interface ≤ j) × (j < length r.right.nodes)) (Node H) keep_node new_node
  pub edges : Union (StaysEdge r G g) (λ k. k < length r.right.edges) (Edge H) keep_edge new_edge
  -- (c) the edges of D keep their sources and targets; those of R have theirs from R, by way of g where they are nodes of K
  pub kept_sources : (e : ℕ) → StaysEdge r G g e → H.source (keep_edge e) ≡ keep_node (G.source e)
  pub kept_targets : (e : ℕ) → StaysEdge r G g e → H.target (keep_edge e) ≡ keep_node (G.target e)
  pub new_sources : (k : ℕ) → k < length r.right.edges
      → H.source (new_edge k) ≡ placed r g.node keep_node new_node (edge_of r.right k).source
  pub new_targets : (k : ℕ) → k < length r.right.edges
      → H.target (new_edge k) ≡ placed r g.node keep_node new_node (edge_of r.right k).target
  -- (d) the nodes of D outside g(V_K) keep their labels; those of g(V_K) and the new ones have the instances of theirs in R
  pub kept_labels : (v : ℕ) → StaysNode r G g v → ((i : ℕ) → i < r.interface → g.node i ≡ v → ⊥)
      → H.node_label (keep_node v) ≡ G.node_label v
  pub interface_labels : (i : ℕ) → i < r.interface
      → NodeInstance α (node_of r.right i) (mark_from (G.node_label (g.node i)).mark (node_of r.right i).mark)
      (root_from r.preserving (node_of r.left i).root (G.node_label (g.node i)).root (node_of r.right i).root)
      (H.node_label (keep_node (g.node i)))
  pub new_labels : (j : ℕ) → r.interface ≤ j → j < length r.right.nodes
      → NodeInstance α (node_of r.right j) (node_of r.right j).mark (node_of r.right j).root (H.node_label (new_node j))
  -- (e) the edges of D keep their labels; those of R have the instances of theirs
  pub kept_edge_labels : (e : ℕ) → StaysEdge r G g e → H.edge_label (keep_edge e) ≡ G.edge_label e
  pub new_edge_labels : (k : ℕ) → k < length r.right.edges → EdgeInstance α (edge_of r.right k) (H.edge_label (new_edge k))

-- Definition 2.7, steps 1 to 3: a match of the rule r in G.
pub record Matches (r : Rule) (G : Graph) : Type 0 where
  -- 1. an injective premorphism and an assignment that are compatible
  pub g : Premorphism r.left G
  pub injective : Injective r.left G g
  pub α : Assignment r
  pub compatible : Compatible r.preserving r.left G g α.of
  -- 2. the dangling condition
  pub dangling : Dangling r G g
  -- 3. the condition is true
  pub condition : True G g.node α.of r.tests

-- Definition 2.7: the rule r is applied to G and gives H.
pub record Applies (r : Rule) (G H : Graph) : Type 0 where
  pub match : Matches r G
  pub constructed : Constructed r G match.g match.α.of H

-- The rule set R is applied to G and gives H: one of its rules is and does.
pub record Applied (R : List Rule) (G H : Graph) : Type 0 where
  pub place : ℕ
  pub listed : place < length R
  pub applies : Applies (rule_at R place) G H
