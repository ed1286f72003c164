-- What the walks ask of each element, item, test and rule. Rests on the meaning's References and on parts' Rows and Images.
use Rattle.std.specs.Prelude.{Bool, true, false, not, List, [], ℕ, length, get_or, eqb, leb, ltb}
use Rattle.meaning.specs.Basics.{both, either, every, absent}
use Rattle.meaning.specs.Image.{RuleGraph, Rule}
use Rattle.meaning.specs.Tags.{int_type, any_mark}
use Rattle.meaning.specs.References.{operand_names, element_operands, element_names, condition_operands, condition_nodes, is_plain, lists, rule_holds}
use Rattle.meaning.specs.declared.Operand.{Operand}
use Rattle.meaning.specs.declared.Operand.TheVariants.{Constant as constant_operand, Variable as variable_operand}
use Rattle.meaning.specs.declared.Element.{Element}
use Rattle.meaning.specs.declared.Condition.{Condition}
use Rattle.meaning.specs.declared.Test.{Test}
use Rattle.references.specs.declared.Ask.{Ask}
use Rattle.references.specs.declared.Ask.TheVariants.{Left, Right, Lacks}
use Rattle.parts.specs.Rows.{item_label, Item, node, edge, items}
use Rattle.parts.specs.Images.{Part, rule_of, procedure_of, main_of}

-- Elements and operands; `ts` are the types of the variables.

unfoldable pub int_operand : List ℕ → Operand → Bool
int_operand ts (constant_operand c) = true
int_operand ts (variable_operand v) = eqb (get_or ts v 0) int_type

-- each is the number of a variable
abbrev pub exist : List ℕ → List ℕ → Bool
exist ts l = every (λ v. ltb v (length ts)) l

unfoldable pub operand_asked : Ask → List ℕ → Operand → Bool
operand_asked (Left n) ts o = false
operand_asked (Right n) ts o = both (exist ts (operand_names o)) (int_operand ts o)
operand_asked (Lacks u) ts o = absent u (operand_names o)

unfoldable pub element_asked : Ask → List ℕ → Element → Bool
element_asked (Left n) ts e = both (exist ts (element_names e)) (is_plain e)
element_asked (Right n) ts e = both (exist ts (element_names e)) (every (int_operand ts) (element_operands e))
element_asked (Lacks u) ts e = absent u (element_names e)

-- how many elements are list variables: as in any rule whose variables have these types

abbrev pub typed : List ℕ → Rule
typed ts =
    let none : RuleGraph = record { nodes = []; edges = [] } in
    record { variables = ts; left = none; right = none; interface = 0; tests = []; preserving = false }

abbrev pub lists_in : List ℕ → List Element → ℕ
lists_in ts l = lists (typed ts) l

-- Items of a graph, and tests.

unfoldable pub ends_below : ℕ → Item → Bool
ends_below n (node x) = true
ends_below n (edge e) = both (ltb e.source n) (ltb e.target n)

unfoldable pub edge_marked : Item → Bool
edge_marked (node x) = true
edge_marked (edge e) = not (eqb e.mark any_mark)

-- an item, beside the elements of its label
unfoldable pub item_fits : Ask → List ℕ → Item → Bool
item_fits (Left n) ts i = both (leb (lists_in ts (item_label i)) 1) (ends_below n i)
item_fits (Right n) ts i = both (edge_marked i) (ends_below n i)
item_fits (Lacks u) ts i = true

unfoldable pub item_asked : Ask → List ℕ → Item → Bool
item_asked ask ts i = both (item_fits ask ts i) (every (element_asked ask ts) (item_label i))

unfoldable pub graph_asked : Ask → List ℕ → RuleGraph → Bool
graph_asked ask ts g = every (item_asked ask ts) (items g)

-- a test, beside its operands
unfoldable pub condition_fits : Ask → Condition → Bool
condition_fits (Left n) c = every (λ a. ltb a n) (condition_nodes c)
condition_fits (Right n) c = every (λ a. ltb a n) (condition_nodes c)
condition_fits (Lacks u) c = true

unfoldable pub condition_asked : Ask → List ℕ → Condition → Bool
condition_asked ask ts c = both (condition_fits ask c) (every (operand_asked ask ts) (condition_operands c))

unfoldable pub test_asked : Ask → List ℕ → Test → Bool
test_asked ask ts t = condition_asked ask ts t.condition

-- Rules.

-- the right side and the tests
abbrev pub right_asked : Ask → Ask → Rule → Bool
right_asked of_right of_tests x = both (graph_asked of_right x.variables x.right) (every (test_asked of_tests x.variables) x.tests)

-- both sides and the tests, which name left nodes
unfoldable pub sides_asked : Rule → Bool
sides_asked x =
    let n = length x.left.nodes in
    both (graph_asked (Left n) x.variables x.left) (right_asked (Right (length x.right.nodes)) (Right n) x)

-- a variable that the left side lacks, the right side and the tests lack
unfoldable pub kept_on_left : Rule → ℕ → Bool
kept_on_left x v = either (not (graph_asked (Lacks v) x.variables x.left)) (right_asked (Lacks v) (Lacks v) x)

unfoldable pub part_holds : Part → Bool
part_holds (rule_of x) = rule_holds x
part_holds (procedure_of c) = true
part_holds (main_of t c) = true
