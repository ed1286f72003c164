-- The plan of a rule: an array of numbers that says where the left items lie in the rule's bytes, how their labels are
-- compared, which item first has each variable and where, and when each test is decided. Rests on the meaning's Image,
-- References, Matching and FirstMatch.
use Rattle.std.specs.Prelude.{◌≡◌, ◌⊎◌, true, false, List, [], ◌∷◌, ℕ, suc, ◌+◌, ◌-◌, ◌<◌, ◌≤◌, eqb, length, get_or, take, drop}
use Rattle.std.proofs.Math.Option.{Option, some}
use Rattle.meaning.specs.Basics.{choose}
use Rattle.meaning.specs.Image.{RuleNode, RuleEdge, RuleGraph, Rule, only, passes_all, rule_node, rule_edge, types, test, rule, limits}
use Rattle.meaning.specs.References.{labels, lists, takes_list, rule_holds}
use Rattle.meaning.specs.Matching.{left_node, left_edge, left_nodes, left_edges}
use Rattle.meaning.specs.Assigned.{is_variable}
use Rattle.meaning.specs.FirstMatch.{first_with, decided_at}
use Rattle.meaning.specs.declared.Condition.TheVariants.{Edge}
use Rattle.meaning.specs.declared.Test.{Test}
use Rattle.meaning.specs.declared.Element.{Element}
use Rattle.meaning.specs.declared.Element.TheVariants.{Constant as constant_element, Variable}
use Rattle.parts.specs.Series.{nth_part}
use Rattle.plan.specs.declared.Side.{Side}
use Rattle.plan.specs.declared.Side.TheVariants.{Source, Target}

-- how many numbers a plan has
abbrev pub plan_length : ℕ
plan_length = 103

-- places of the numbers: of left nodes, left edges, the interface and tests, how many
abbrev pub nodes_at : ℕ
nodes_at = 0

abbrev pub edges_at : ℕ
edges_at = 1

abbrev pub interface_at : ℕ
interface_at = 2

abbrev pub tests_at : ℕ
tests_at = 3

-- where each left item's payload starts, and where it ends
abbrev pub start_at : ℕ
start_at = 4

abbrev pub end_at : ℕ
end_at = 16

-- the first item with each variable
abbrev pub first_at : ℕ
first_at = 28

-- how many items decide each test
abbrev pub decides_at : ℕ
decides_at = 34

-- where the tests start and end, and where the variables' types do
abbrev pub tests_start_at : ℕ
tests_start_at = 38

abbrev pub tests_end_at : ℕ
tests_end_at = 39

abbrev pub types_start_at : ℕ
types_start_at = 40

abbrev pub types_end_at : ℕ
types_end_at = 41

-- the mode: 1 if the rule preserves roots
abbrev pub mode_at : ℕ
mode_at = 42

-- how many elements each left label has, and how many of them are list variables
abbrev pub elements_at : ℕ
elements_at = 43

abbrev pub lists_at : ℕ
lists_at = 55

-- the sort of each left label, and the constant that it is
abbrev pub sort_at : ℕ
sort_at = 67

abbrev pub constant_at : ℕ
constant_at = 79

-- how many elements of one atom, and how many lists, each variable's first occurrence is behind
abbrev pub singles_at : ℕ
singles_at = 91

abbrev pub before_at : ℕ
before_at = 97

-- the sorts: its length alone decides, it is one constant; any other number is any other label
abbrev pub length_sort : ℕ
length_sort = 1

abbrev pub constant_sort : ℕ
constant_sort = 2

-- what a reader of bytes reads between two places
pub record Placed {A : Type 0} (read : List ℕ → Option A) (bs : List ℕ) (start end : ℕ) (a : A) : Type 0 where
  pub ordered : start ≤ end
  pub inside : end ≤ length bs
  pub is : read (take (end - start) (drop start bs)) ≡ some a

-- Graphs by number.

abbrev pub node_of : RuleGraph → ℕ → RuleNode
node_of g i = get_or g.nodes i (record { mark = 0; root = 0; label = [] })

abbrev pub edge_of : RuleGraph → ℕ → RuleEdge
edge_of g k = get_or g.edges k (record { mark = 0; source = 0; target = 0; label = [] })

-- the node at an end of an edge, and where the edge's bytes have it
abbrev pub edge_end : Side → RuleEdge → ℕ
edge_end Source e = e.source
edge_end Target e = e.target

abbrev pub end_place : Side → ℕ
end_place Source = 1
end_place Target = 2

abbrev pub test_of : Rule → ℕ → Test
test_of r t = get_or r.tests t (record { negated = false; condition = Edge 0 0 })

-- The plan, as far as it is made.

-- the items of a graph lie where the plan says
pub record Items (bs : List ℕ) (g : RuleGraph) (plan : List ℕ) : Type 0 where
  pub size : length plan ≡ plan_length
  pub nodes : get_or plan nodes_at 0 ≡ length g.nodes
  pub edges : get_or plan edges_at 0 ≡ length g.edges
  pub few_nodes : length g.nodes ≤ limits.nodes
  pub few_edges : length g.edges ≤ limits.edges
  pub node : (i : ℕ) → i < length g.nodes → Placed rule_node bs (get_or plan (start_at + i) 0) (get_or plan (end_at + i) 0) (node_of g i)
  pub edge : (k : ℕ) → k < length g.edges
      → Placed rule_edge bs (get_or plan (start_at + (length g.nodes + k)) 0) (get_or plan (end_at + (length g.nodes + k)) 0) (edge_of g k)

-- all parts of the rule lie where the plan says
pub record Laid (bs : List ℕ) (r : Rule) (plan : List ℕ) : Type 0 where
  pub is : rule bs ≡ some r
  pub holds : rule_holds r ≡ true
  pub items : Items bs r.left plan
  pub interface : get_or plan interface_at 0 ≡ r.interface
  pub mode : r.preserving ≡ eqb (get_or plan mode_at 0) 1
  pub few_variables : length r.variables ≤ limits.variables
  pub types : Placed types bs (get_or plan types_start_at 0) (get_or plan types_end_at 0) r.variables
  pub few_tests : length r.tests ≤ limits.tests
  pub tests : Placed (only passes_all test limits.tests) bs (get_or plan tests_start_at 0) (get_or plan tests_end_at 0) r.tests

-- Where variables are. How many elements of one atom, and how many lists, a label has before variable v.

unfoldable pub singles_before : Rule → ℕ → List Element → ℕ
singles_before r v [] = 0
singles_before r v (e ∷ l) =
    let later = singles_before r v l in
    choose (is_variable v e) 0 (choose (takes_list r e) later (suc later))

unfoldable pub lists_before : Rule → ℕ → List Element → ℕ
lists_before r v [] = 0
lists_before r v (e ∷ l) =
    let later = lists_before r v l in
    choose (is_variable v e) 0 (choose (takes_list r e) (suc later) later)

-- the label of left item j
abbrev pub label_of : Rule → ℕ → List Element
label_of r j = get_or (labels r.left) j []

-- item j is the first with variable v, and where it has it
pub record FirstAt (r : Rule) (v j s q : ℕ) : Type 0 where
  pub item : j ≡ first_with v (labels r.left)
  pub singles : j < left_nodes r + left_edges r → s ≡ singles_before r v (label_of r j)
  pub lists : j < left_nodes r + left_edges r → q ≡ lists_before r v (label_of r j)

-- How labels are compared.

-- a label that agrees whenever its length fits: it is empty, or one variable that item j is the first to have
pub record Fresh (r : Rule) (j : ℕ) (l : List Element) : Type 0 where
  pub variable : ℕ
  pub is : l ≡ Variable variable ∷ []
  pub first : first_with variable (labels r.left) ≡ j

abbrev pub Alone : Rule → ℕ → List Element → Type 0
Alone r j l = (l ≡ []) ⊎ Fresh r j l

-- the plan has the counts of the label of item j, and a sort that is right
pub record Labelled (r : Rule) (plan : List ℕ) (j : ℕ) : Type 0 where
  pub elements : get_or plan (elements_at + j) 0 ≡ length (label_of r j)
  pub lists : get_or plan (lists_at + j) 0 ≡ lists r (label_of r j)
  pub alone : get_or plan (sort_at + j) 0 ≡ length_sort → Alone r j (label_of r j)
  pub constant : get_or plan (sort_at + j) 0 ≡ constant_sort → label_of r j ≡ constant_element (get_or plan (constant_at + j) 0) ∷ []

-- the whole plan of rule r
pub record Planned (bs : List ℕ) (r : Rule) (plan : List ℕ) : Type 0 where
  pub laid : Laid bs r plan
  pub first : (v : ℕ) → v < length r.variables → FirstAt r v (get_or plan (first_at + v) 0) (get_or plan (singles_at + v) 0) (get_or plan (before_at + v) 0)
  pub labelled : (j : ℕ) → j < left_nodes r + left_edges r → Labelled r plan j
  pub tests : get_or plan tests_at 0 ≡ length r.tests
  pub decided : (t : ℕ) → t < length r.tests → get_or plan (decides_at + t) 0 ≡ decided_at r (test_of r t)

-- What callers must know.

-- the bytes are a rule, and its references hold
pub record IsRule (bs : List ℕ) : Type 0 where
  pub tree : Rule
  pub is : rule bs ≡ some tree
  pub holds : rule_holds tree ≡ true

-- the plan says where the parts of the rule lie
pub record IsLaid (bs plan : List ℕ) : Type 0 where
  pub tree : Rule
  pub laid : Laid bs tree plan

-- and j is the number of a left item
pub record HasItem (bs plan : List ℕ) (j : ℕ) : Type 0 where
  pub tree : Rule
  pub laid : Laid bs tree plan
  pub there : j < left_nodes tree + left_edges tree

-- or of a left node
pub record HasNode (bs plan : List ℕ) (i : ℕ) : Type 0 where
  pub tree : Rule
  pub laid : Laid bs tree plan
  pub there : i < left_nodes tree

-- or of a left edge, counted from the first edge
pub record HasEdge (bs plan : List ℕ) (k : ℕ) : Type 0 where
  pub tree : Rule
  pub laid : Laid bs tree plan
  pub there : k < left_edges tree

-- What the reading functions answer, of whichever rule the plan is.

abbrev pub For : List ℕ → List ℕ → (Rule → Type 0) → Type 0
For bs plan P = (r : Rule) → Laid bs r plan → P r

-- the mark of item j
pub record Marked (r : Rule) (j mark : ℕ) : Type 0 where
  pub node : j < left_nodes r → mark ≡ (left_node r j).mark
  pub edge : (k : ℕ) → k < left_edges r → j ≡ left_nodes r + k → mark ≡ (left_edge r k).mark

-- the payload of the field of number n lies between two places
pub record Part (bs : List ℕ) (n start end : ℕ) : Type 0 where
  pub ordered : start ≤ end
  pub inside : end ≤ length bs
  pub is : take (end - start) (drop start bs) ≡ nth_part n bs
