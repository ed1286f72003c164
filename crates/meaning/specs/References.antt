-- References (answer 17): one test for each thing that document 01's paragraph asks of an image that has the form.
-- Rests on Basics, Tags, Image and, for `everywhere`, Procedures, and on the code's Operand, Element and Condition.
use Rattle.std.specs.Prelude.{Bool, true, false, not, List, [], ◌∷◌, ◌++◌, map, ℕ, suc, length, get_or, eqb, leb, ltb}
use Rattle.meaning.specs.Basics.{choose, both, either, clauses, all, every, absent, concat}
use Rattle.meaning.specs.Tags.{int_type, list_type, none_mark, any_mark}
use Rattle.meaning.specs.Image.{RuleGraph, Rule, RawProgram, Raw, rule_set, sequence, guarded, loop, skip, fail, break, call, Raws, no_more, then}
use Rattle.meaning.specs.Procedures.{everywhere}
use Rattle.meaning.specs.declared.Operand.{Operand}
use Rattle.meaning.specs.declared.Operand.TheVariants.{Constant as constant_operand, Variable as variable_operand}
use Rattle.meaning.specs.declared.Element.{Element}
use Rattle.meaning.specs.declared.Element.TheVariants.{Constant, Variable, Sum, Difference}
use Rattle.meaning.specs.declared.Condition.{Condition}
use Rattle.meaning.specs.declared.Condition.TheVariants.{Edge, InDegree, OutDegree, Equal, Less}

-- What elements, labels, graphs and tests name.

unfoldable pub operand_names : Operand → List ℕ
operand_names (constant_operand c) = []
operand_names (variable_operand v) = v ∷ []

-- the operands of an element's sum or difference
unfoldable pub element_operands : Element → List Operand
element_operands (Constant c) = []
element_operands (Variable v) = []
element_operands (Sum a b) = a ∷ b ∷ []
element_operands (Difference a b) = a ∷ b ∷ []

unfoldable pub element_names : Element → List ℕ
element_names (Constant c) = []
element_names (Variable v) = v ∷ []
element_names (Sum a b) = operand_names a ++ operand_names b
element_names (Difference a b) = operand_names a ++ operand_names b

unfoldable pub condition_operands : Condition → List Operand
condition_operands (Edge a b) = []
condition_operands (InDegree a n) = []
condition_operands (OutDegree a n) = []
condition_operands (Equal a b) = a ∷ b ∷ []
condition_operands (Less a b) = a ∷ b ∷ []

unfoldable pub condition_nodes : Condition → List ℕ
condition_nodes (Edge a b) = a ∷ b ∷ []
condition_nodes (InDegree a n) = a ∷ []
condition_nodes (OutDegree a n) = a ∷ []
condition_nodes (Equal a b) = []
condition_nodes (Less a b) = []

-- a graph's labels: its nodes', then its edges'
abbrev pub labels : RuleGraph → List (List Element)
labels g = map (λ n. n.label) g.nodes ++ map (λ e. e.label) g.edges

abbrev pub elements : RuleGraph → List Element
elements g = concat (labels g)

abbrev pub names : RuleGraph → List ℕ
names g = concat (map element_names (elements g))

abbrev pub test_operands : Rule → List Operand
test_operands r = concat (map (λ t. condition_operands t.condition) r.tests)

abbrev pub test_names : Rule → List ℕ
test_names r = concat (map operand_names (test_operands r))

-- the type of a variable
abbrev pub is_int : Rule → ℕ → Bool
is_int r v = eqb (get_or r.variables v 0) int_type

abbrev pub is_list : Rule → ℕ → Bool
is_list r v = eqb (get_or r.variables v 0) list_type

-- The tests.

-- named variables exist
unfoldable pub variables_exist : Rule → Bool
variables_exist r = every (λ v. ltb v (length r.variables)) (names r.left ++ names r.right ++ test_names r)

-- an edge's ends are nodes of its graph
unfoldable pub ends_exist : RuleGraph → Bool
ends_exist g = every (λ e. both (ltb e.source (length g.nodes)) (ltb e.target (length g.nodes))) g.edges

-- tests name left nodes
unfoldable pub test_nodes_exist : Rule → Bool
test_nodes_exist r =
    every (λ t. every (λ a. ltb a (length r.left.nodes)) (condition_nodes t.condition)) r.tests

-- k is at most both node counts
unfoldable pub interface_fits : Rule → Bool
interface_fits r = both (leb r.interface (length r.left.nodes)) (leb r.interface (length r.right.nodes))

unfoldable pub is_plain : Element → Bool
is_plain (Constant c) = true
is_plain (Variable v) = true
is_plain (Sum a b) = false
is_plain (Difference a b) = false

-- a left label has no sum or difference
unfoldable pub left_plain : Rule → Bool
left_plain r = every is_plain (elements r.left)

-- the element is a list variable
unfoldable pub takes_list : Rule → Element → Bool
takes_list r (Constant c) = false
takes_list r (Variable v) = is_list r v
takes_list r (Sum a b) = false
takes_list r (Difference a b) = false

-- how many of the elements are list variables
unfoldable pub lists : Rule → List Element → ℕ
lists r [] = 0
lists r (e ∷ l) = let n = lists r l in choose (takes_list r e) (suc n) n

-- a left label has at most one occurrence of a list variable
unfoldable pub left_simple : Rule → Bool
left_simple r = every (λ l. leb (lists r l) 1) (labels r.left)

unfoldable pub operand_int : Rule → Operand → Bool
operand_int r (constant_operand c) = true
operand_int r (variable_operand v) = is_int r v

-- operands are int
unfoldable pub operands_int : Rule → Bool
operands_int r =
    every (operand_int r) (concat (map element_operands (elements r.left)) ++ concat (map element_operands (elements r.right)) ++ test_operands r)

-- every variable of the right side or tests occurs on the left
unfoldable pub variables_on_left : Rule → Bool
variables_on_left r = every (λ v. not (absent v (names r.left))) (names r.right ++ test_names r)

-- a right node j of mark any is an interface node that is any on the left
unfoldable pub any_kept : Rule → ℕ → Bool
any_kept r j =
    either (not (eqb (mark_at r.right j) any_mark)) (both (ltb j r.interface) (eqb (mark_at r.left j) any_mark))
  where
    mark_at : RuleGraph → ℕ → ℕ
    mark_at g i = get_or (map (λ n. n.mark) g.nodes) i none_mark

-- mark any on the right stands only on such nodes
unfoldable pub any_placed : Rule → Bool
any_placed r =
    both (all (any_kept r) (length r.right.nodes)) (every (λ e. not (eqb e.mark any_mark)) r.right.edges)

unfoldable pub rule_holds : Rule → Bool
rule_holds r =
    clauses
    (variables_exist r
    ∷ ends_exist r.left
    ∷ ends_exist r.right
    ∷ test_nodes_exist r
    ∷ interface_fits r
    ∷ left_plain r
    ∷ left_simple r
    ∷ operands_int r
    ∷ variables_on_left r
    ∷ any_placed r
    ∷ [])

-- named rules and procedures exist, n and m being how many there are
unfoldable mutual
  pub names_exist : Raw → ℕ → ℕ → Bool
  names_exist (rule_set l) n m = every (λ i. ltb i n) l
  names_exist (sequence cs) n m = all_names_exist cs n m
  names_exist (guarded keep g a b) n m = both (names_exist g n m) (both (names_exist a n m) (names_exist b n m))
  names_exist (loop c) n m = names_exist c n m
  names_exist skip n m = true
  names_exist fail n m = true
  names_exist break n m = true
  names_exist (call i) n m = ltb i m

  pub all_names_exist : Raws → ℕ → ℕ → Bool
  all_names_exist no_more n m = true
  all_names_exist (then c cs) n m = both (names_exist c n m) (all_names_exist cs n m)

unfoldable pub references : RawProgram → Bool
references p =
    both (every rule_holds p.rules) (everywhere (λ c. names_exist c (length p.rules) (length p.procedures)) p)
