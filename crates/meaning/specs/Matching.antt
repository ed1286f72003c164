-- What a match is: document 01's six matching rules, one or two fields each, with one assignment of the variables.
-- Rests on Basics, Numbers, Tags, Layout, Image and References (for the types of variables), and on the code's Operand, Element,
-- Condition and Test.
use Rattle.std.specs.Prelude.{◌≡◌, ◌⊎◌, Bool, true, not, List, [], ◌∷◌, map, ℕ, ◌+◌, ◌<◌, ◌≤◌, length, get_or, eqb}
use Rattle.meaning.specs.Basics.{choose, both, either, exists, count, every, concat}
use Rattle.meaning.specs.Numbers.{less}
use Rattle.meaning.specs.Layout.{Slot, free, live, Node, Edge, Host, live_at}
use Rattle.meaning.specs.Image.{RuleNode, RuleEdge, Rule}
use Rattle.meaning.specs.Tags.{none_mark, any_mark}
use Rattle.meaning.specs.References.{is_int}
use Rattle.meaning.specs.declared.Operand.{Operand}
use Rattle.meaning.specs.declared.Operand.TheVariants.{Constant as constant_operand, Variable as variable_operand}
use Rattle.meaning.specs.declared.Element.{Element}
use Rattle.meaning.specs.declared.Element.TheVariants.{Constant, Variable, Sum, Difference}
use Rattle.meaning.specs.declared.Condition.{Condition}
use Rattle.meaning.specs.declared.Condition.TheVariants.{Edge as edge_between, InDegree, OutDegree, Equal, Less}
use Rattle.meaning.specs.declared.Test.{Test}

-- The host's nodes and edges by slot number. A slot that is free or not there has nothing.

unfoldable pub node_in : Slot Node → Node
node_in free = record { mark = none_mark; root = 0; label = [] }
node_in (live n) = n

unfoldable pub edge_in : Slot Edge → Edge
edge_in free = record { mark = none_mark; source = 0; target = 0; label = [] }
edge_in (live e) = e

abbrev pub node_at : Host → ℕ → Node
node_at h x = node_in (get_or h.nodes x free)

abbrev pub edge_at : Host → ℕ → Edge
edge_at h x = edge_in (get_or h.edges x free)

-- A rule's left items by number, and their slots in a placement p: node slots in left order, then edge slots.

abbrev pub left_node : Rule → ℕ → RuleNode
left_node r i = get_or r.left.nodes i (record { mark = none_mark; root = 0; label = [] })

abbrev pub left_edge : Rule → ℕ → RuleEdge
left_edge r k = get_or r.left.edges k (record { mark = none_mark; source = 0; target = 0; label = [] })

abbrev pub left_nodes : Rule → ℕ
left_nodes r = length r.left.nodes

abbrev pub left_edges : Rule → ℕ
left_edges r = length r.left.edges

-- how many items there are
abbrev pub total : Rule → ℕ
total r = left_nodes r + left_edges r

abbrev pub node_slot : List ℕ → ℕ → ℕ
node_slot p i = get_or p i 0

abbrev pub edge_slot : Rule → List ℕ → ℕ → ℕ
edge_slot r p k = get_or p (left_nodes r + k) 0

-- Values under an assignment: a list of atoms for each variable.

abbrev pub Assignment : Type 0
Assignment = ℕ → List ℕ

unfoldable pub atoms_of : Assignment → Element → List ℕ
atoms_of α (Constant c) = c ∷ []
atoms_of α (Variable v) = α v
atoms_of α (Sum a b) = []
atoms_of α (Difference a b) = []

-- the label that a left label stands for
abbrev pub instance : Assignment → List Element → List ℕ
instance α l = concat (map (atoms_of α) l)

-- an operand's atom
unfoldable pub atom_of : Assignment → Operand → ℕ
atom_of α (constant_operand c) = c
atom_of α (variable_operand v) = get_or (α v) 0 0

-- Tests, in the host before the change.

module _ (h : Host) where
  -- edge x is live and runs from node slot s to node slot t
  unfoldable pub edge_runs : ℕ → ℕ → ℕ → Bool
  edge_runs s t x = both (live_at h.edges x) (both (eqb (edge_at h x).source s) (eqb (edge_at h x).target t))

  -- edge x is live and touches node slot c
  unfoldable pub edge_touches : ℕ → ℕ → Bool
  edge_touches c x = both (live_at h.edges x) (either (eqb (edge_at h x).source c) (eqb (edge_at h x).target c))

  -- edge x is live and leaves node slot s
  unfoldable pub edge_leaves : ℕ → ℕ → Bool
  edge_leaves s x = both (live_at h.edges x) (eqb (edge_at h x).source s)

  -- edge x is live and arrives at node slot t
  unfoldable pub edge_arrives : ℕ → ℕ → Bool
  edge_arrives t x = both (live_at h.edges x) (eqb (edge_at h x).target t)

  -- how many edges leave node slot s, and how many arrive at t; a loop is one of each
  unfoldable pub out_degree : ℕ → ℕ
  out_degree s = count (edge_leaves s) (length h.edges)

  unfoldable pub in_degree : ℕ → ℕ
  in_degree t = count (edge_arrives t) (length h.edges)

  unfoldable pub condition_holds : List ℕ → Assignment → Condition → Bool
  condition_holds p α (edge_between a b) = exists (edge_runs (node_slot p a) (node_slot p b)) (length h.edges)
  condition_holds p α (InDegree a n) = eqb (in_degree (node_slot p a)) n
  condition_holds p α (OutDegree a n) = eqb (out_degree (node_slot p a)) n
  condition_holds p α (Equal a b) = eqb (atom_of α a) (atom_of α b)
  condition_holds p α (Less a b) = less (atom_of α a) (atom_of α b)

  unfoldable pub test_holds : List ℕ → Assignment → Test → Bool
  test_holds p α t = choose t.negated (not (condition_holds p α t.condition)) (condition_holds p α t.condition)

-- a left mark agrees with a host mark
abbrev pub MarksAgree : ℕ → ℕ → Type 0
MarksAgree left mark = (left ≡ any_mark) ⊎ (left ≡ mark)

-- a left node's root flag agrees with a host node's: they are equal, or the rule is preserving and the left node no root
unfoldable pub roots_agree : Bool → ℕ → ℕ → Bool
roots_agree preserving left host = either (both preserving (eqb left 0)) (eqb left host)

-- every host edge touching the image of a left node outside the interface is the image of a left edge
abbrev pub DanglingCondition : Host → Rule → List ℕ → Type 0
DanglingCondition h r p =
    (x j : ℕ) → live_at h.edges x ≡ true → r.interface ≤ j → j < left_nodes r
    → ((edge_at h x).source ≡ node_slot p j) ⊎ ((edge_at h x).target ≡ node_slot p j)
    → (k : ℕ) × (k < left_edges r) × (edge_slot r p k ≡ x)

-- p is a match of rule r in host h
pub record Match (h : Host) (r : Rule) (p : List ℕ) : Type 0 where
  -- a different live node slot for each left node, a different live edge slot for each left edge
  pub size : length p ≡ total r
  pub nodes_live : (i : ℕ) → i < left_nodes r → live_at h.nodes (node_slot p i) ≡ true
  pub edges_live : (k : ℕ) → k < left_edges r → live_at h.edges (edge_slot r p k) ≡ true
  pub nodes_apart : (i j : ℕ) → i < j → j < left_nodes r → node_slot p i ≡ node_slot p j → ⊥
  pub edges_apart : (i j : ℕ) → i < j → j < left_edges r → edge_slot r p i ≡ edge_slot r p j → ⊥
  -- 1. marks agree
  pub node_marks : (i : ℕ) → i < left_nodes r → MarksAgree (left_node r i).mark (node_at h (node_slot p i)).mark
  pub edge_marks : (k : ℕ) → k < left_edges r → MarksAgree (left_edge r k).mark (edge_at h (edge_slot r p k)).mark
  -- 2. root flags are equal both ways; in a preserving rule an unrooted left node takes either
  pub roots : (i : ℕ) → i < left_nodes r → roots_agree r.preserving (left_node r i).root (node_at h (node_slot p i)).root ≡ true
  -- 3. sources and targets correspond
  pub sources : (k : ℕ) → k < left_edges r → (edge_at h (edge_slot r p k)).source ≡ node_slot p (left_edge r k).source
  pub targets : (k : ℕ) → k < left_edges r → (edge_at h (edge_slot r p k)).target ≡ node_slot p (left_edge r k).target
  -- 4. labels agree under one assignment; an int takes one atom, a list as many as its label has left
  pub assignment : Assignment
  pub ints : (v : ℕ) → is_int r v ≡ true → length (assignment v) ≡ 1
  pub node_labels : (i : ℕ) → i < left_nodes r → (node_at h (node_slot p i)).label ≡ instance assignment (left_node r i).label
  pub edge_labels : (k : ℕ) → k < left_edges r → (edge_at h (edge_slot r p k)).label ≡ instance assignment (left_edge r k).label
  -- 5. the dangling condition
  pub dangling : DanglingCondition h r p
  -- 6. every test holds in the host before the change
  pub tests : every (test_holds h p assignment) r.tests ≡ true

-- document 01's order: number by number, p is before q
abbrev pub Before : List ℕ → List ℕ → Type 0
Before [] q = ⊥
Before (a ∷ p) [] = ⊥
Before (a ∷ p) (b ∷ q) = (a < b) ⊎ ((a ≡ b) × Before p q)
