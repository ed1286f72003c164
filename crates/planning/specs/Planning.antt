-- Making a plan: where the parts of a rule lie, where a label first has a variable, how a label is compared, when a condition is
-- decided, and the plan as far as it is made. Rests on plan's Plan and on the meaning's FirstMatch.
use Rattle.std.specs.Prelude.{◌≡◌, ◌⊎◌, true, false, Option, Some, None, Ok, List, [], ◌∷◌, ◌++◌, map, ℕ, suc, ◌+◌, ◌<◌, ◌≤◌, eqb, length, get_or}
use Rattle.std.proofs.Math.Option.{some}
use Rattle.meaning.specs.Basics.{concat}
use Rattle.meaning.specs.Image.{RuleGraph, Rule, limits, most_items, rule_graph, rule}
use Rattle.meaning.specs.References.{operand_names, condition_operands, condition_nodes, labels}
use Rattle.meaning.specs.Matching.{left_nodes, left_edges}
use Rattle.meaning.specs.FirstMatch.{has, highest, first_with}
use Rattle.meaning.specs.Laws.Every.{Every}
use Rattle.meaning.specs.declared.Operand.{Operand}
use Rattle.meaning.specs.declared.Operand.TheVariants.{Constant as constant_operand, Variable as variable_operand}
use Rattle.meaning.specs.declared.Condition.{Condition}
use Rattle.meaning.specs.declared.Element.{Element}
use Rattle.meaning.specs.declared.Element.TheVariants.{Constant as constant_element, Variable, Sum, Difference}
use Rattle.fields.specs.Fields.{field_at, found, nth_field}
use Rattle.fields.specs.declared.Field.{Field}
use Rattle.plan.specs.Plan.{Placed, Laid, Part, singles_before, lists_before, FirstAt, Labelled, Planned, before_at, first_at, plan_length, singles_at, constant_at, elements_at, lists_at, sort_at}
use Rattle.planning.specs.declared.Behind.{Behind}
use Rattle.planning.specs.declared.First.{First}
use Rattle.planning.specs.declared.Parts.{Parts}
use Rattle.planning.specs.declared.Sort.{Sort}
use Rattle.planning.specs.declared.Sort.TheVariants.{Length, Constant, Elements}

-- Where parts of a rule are.

-- the field of number n is the one at a place
abbrev pub NumberAt : List ℕ → ℕ → ℕ → Type 0
NumberAt bs n at = nth_field n bs 0 ≡ field_at bs at

-- the payload of the field at a place, whatever its number, and the next field behind it
pub record Lying (bs : List ℕ) (at start end : ℕ) : Type 0 where
  pub part : (n : ℕ) → NumberAt bs n at → Part bs n start end
  pub next : (n tag s e : ℕ) → NumberAt bs n at → nth_field n bs 0 ≡ found tag s e → NumberAt bs (suc n) end

-- the field at a place, if there is one
abbrev pub FieldAt : List ℕ → ℕ → Option Field → Type 0
FieldAt bs at (Some f) = field_at bs at ≡ Some (Ok f)
FieldAt bs at None = (tag start end : ℕ) → field_at bs at ≡ found tag start end → ⊥

-- the parts of a rule that its plan speaks of are the fields of their numbers, and the mode is the one behind them
pub record PartsLie (bs : List ℕ) (p : Parts) : Type 0 where
  pub types : Part bs 0 p.types.start p.types.end
  pub left : Part bs 1 p.left.start p.left.end
  pub interface : Part bs 3 p.interface.start p.interface.end
  pub tests : Part bs 4 p.tests.start p.tests.end
  pub mode : NumberAt bs 5 p.tests.end

-- all are there where the bytes are a rule
abbrev pub PartsOf : List ℕ → Option Parts → Type 0
PartsOf bs (Some p) = PartsLie bs p
PartsOf bs None = (r : Rule) → rule bs ≡ some r → ⊥

-- the number says whether the rule preserves roots, if its mode is at a place
abbrev pub ModeAt : List ℕ → ℕ → ℕ → Type 0
ModeAt bs at mode = (r : Rule) → rule bs ≡ some r → NumberAt bs 5 at → r.preserving ≡ eqb mode 1

-- Where variables are.

-- the variable that an element is
abbrev pub variable_of : Element → Option ℕ
variable_of (constant_element c) = None
variable_of (Variable v) = Some v
variable_of (Sum a b) = None
variable_of (Difference a b) = None

abbrev pub Occurring : Rule → ℕ → List Element → Option Behind → Type 0
Occurring r v l (Some b) = (has v l ≡ true) × (b.singles ≡ singles_before r v l) × (b.lists ≡ lists_before r v l)
Occurring r v l None = has v l ≡ false

-- the first item with variable v, and where it has it; or no item has it
abbrev pub FirstFound : Rule → ℕ → Option First → Type 0
FirstFound r v (Some f) = FirstAt r v f.item f.behind.singles f.behind.lists
FirstFound r v None = first_with v (labels r.left) ≡ left_nodes r + left_edges r

-- the plan has, of each of the first n variables, the first item that has it and where
pub record Named (bs : List ℕ) (r : Rule) (plan : List ℕ) (n : ℕ) : Type 0 where
  pub laid : Laid bs r plan
  pub first : (v : ℕ) → v < n → FirstAt r v (get_or plan (first_at + v) 0) (get_or plan (singles_at + v) 0) (get_or plan (before_at + v) 0)

-- How labels are compared.

-- one of n variables, whose first item is j by the plan
pub record FreshBy (n : ℕ) (plan : List ℕ) (j : ℕ) (l : List Element) : Type 0 where
  pub variable : ℕ
  pub is : l ≡ Variable variable ∷ []
  pub there : variable < n
  pub first : get_or plan (first_at + variable) 0 ≡ j

-- what the sort of a label says, where the first item with each of n variables is in the plan
abbrev pub Sorts : ℕ → List ℕ → ℕ → List Element → Sort → Type 0
Sorts n plan j l Length = (l ≡ []) ⊎ FreshBy n plan j l
Sorts n plan j l (Constant x) = l ≡ constant_element x ∷ []
Sorts n plan j l Elements = l ≡ l

-- nothing but what is said of the label of item j is changed
pub record OnlyLabel (before after : List ℕ) (j : ℕ) : Type 0 where
  pub size : length after ≡ length before
  pub kept : (x : ℕ) → (x ≡ elements_at + j → ⊥) → (x ≡ lists_at + j → ⊥) → (x ≡ sort_at + j → ⊥) → (x ≡ constant_at + j → ⊥) → get_or after x 0 ≡ get_or before x 0

pub record AllLabelled (bs : List ℕ) (r : Rule) (plan : List ℕ) : Type 0 where
  pub named : Named bs r plan (length r.variables)
  pub labelled : (j : ℕ) → j < left_nodes r + left_edges r → Labelled r plan j

-- What callers must know.

-- the bytes between two places are a graph
pub record HasGraph (bs : List ℕ) (start end : ℕ) : Type 0 where
  pub graph : RuleGraph
  pub placed : Placed rule_graph bs start end graph

-- the plan says where the parts of the rule lie, and the first item with each variable
pub record IsNamed (bs plan : List ℕ) : Type 0 where
  pub tree : Rule
  pub named : Named bs tree plan (length tree.variables)

-- and how each left label is compared
pub record IsLabelled (bs plan : List ℕ) : Type 0 where
  pub tree : Rule
  pub labelled : AllLabelled bs tree plan

-- When a condition is decided.

-- the plan has the first item with each of the operand's variables
pub record Valued (plan : List ℕ) (o : Operand) : Type 0 where
  pub size : length plan ≡ plan_length
  pub variables : Every (λ v. (v < limits.variables) × (get_or plan (first_at + v) 0 ≤ most_items)) (operand_names o)

-- and with each of the condition's, whose nodes are there
pub record Decides (plan : List ℕ) (c : Condition) : Type 0 where
  pub nodes : Every (λ a. a < limits.nodes) (condition_nodes c)
  pub operands : Every (Valued plan) (condition_operands c)

-- how many items must be placed before an operand has its value
unfoldable pub operand_decided : List ℕ → Operand → ℕ
operand_decided plan (constant_operand c) = 0
operand_decided plan (variable_operand v) = get_or plan (first_at + v) 0 + 1

-- how many items must be placed before a condition is decided
unfoldable pub decided_by : List ℕ → Condition → ℕ
decided_by plan c =
    highest
    (map suc
    (condition_nodes c ++ map (λ v. get_or plan (first_at + v) 0) (concat (map operand_names (condition_operands c)))))

-- The plan that is made.

abbrev pub Plans : List ℕ → List ℕ → Type 0
Plans bs plan = (r : Rule) → rule bs ≡ some r → Planned bs r plan
