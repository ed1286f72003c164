-- The rows of fields that an image is made of: how the items of each are read, how many it takes, and what is behind it; and
-- what the first bytes of an item tell. Rests on the meaning's Image.
use Rattle.std.specs.Prelude.{◌≡◌, Bool, true, false, List, ℕ, suc, ◌<◌, ◌≤◌, length, get_or, drop, eqb, leb, ltb}
use Rattle.std.proofs.Math.Option.{Option, some, none}
use Rattle.std.specs.Prelude.{Option as Choice, Some, None}
use Rattle.meaning.specs.Basics.{both, is_empty}
use Rattle.meaning.specs.Tags.{rule_tag, procedure_tag, variables_tag, left_tag, right_tag, interface_tag, tests_tag, mode_tag, node_tag, edge_tag}
use Rattle.meaning.specs.Image.{Read, RuleNode, RuleEdge, RuleGraph, Rule, Raw, limits, leading, only, passes_all, one_byte, operand, element, rule_node, rule_edge, rule_graph, test, types, mode, rule, command, one_command}
use Rattle.meaning.specs.declared.Operand.{Operand}
use Rattle.meaning.specs.declared.Element.{Element}
use Rattle.meaning.specs.declared.Test.{Test}
use Rattle.image.specs.declared.Row.{Row}
use Rattle.image.specs.declared.Row.TheVariants.{Rules, Procedures, Variables, Left, Right, Interface, Conditions, Modes, Nodes, Edges, Tests, Elements, Operands, Sequence, Guarded, One}
use Rattle.image.specs.declared.Inside.{Inside}
use Rattle.image.specs.declared.Inside.TheVariants.{Known, From}

-- how an item of a row is read

abbrev pub Value : Row → Type 0
Value Rules = Rule
Value Procedures = Raw
Value Variables = List ℕ
Value Left = RuleGraph
Value Right = RuleGraph
Value Interface = ℕ
Value Conditions = List Test
Value Modes = Bool
Value Nodes = RuleNode
Value Edges = RuleEdge
Value Tests = Test
Value Elements = Element
Value Operands = Operand
Value (Sequence depth) = Raw
Value (Guarded depth) = Raw
Value (One depth) = Raw

abbrev pub read : (row : Row) → ℕ → List ℕ → Option (Value row)
read Rules tag bs = rule bs
read Procedures tag bs = one_command (command limits.depth) bs
read Variables tag bs = types bs
read Left tag bs = rule_graph bs
read Right tag bs = rule_graph bs
read Interface tag bs = one_byte bs
read Conditions tag bs = only passes_all test limits.tests bs
read Modes tag bs = mode bs
read Nodes tag bs = rule_node bs
read Edges tag bs = rule_edge bs
read Tests tag bs = test tag bs
read Elements tag bs = element tag bs
read Operands tag bs = operand tag bs
read (Sequence depth) tag bs = command depth tag bs
read (Guarded depth) tag bs = command depth tag bs
read (One depth) tag bs = command depth tag bs

-- the row of the main command, and what is in a procedure; 16 is `limits.depth`
abbrev pub main_row : Row
main_row = One 16

-- What a row takes: the tag of every item (none where any may stand), how many at least and at most, and the row behind it, if
-- one follows. Rows fall by rank: those in an item, and those behind a row, are below it.
pub record Takes : Type 0 where
  pub tag : Choice ℕ
  pub least : ℕ
  pub most : ℕ
  pub next : Choice Row
  pub rank : ℕ

abbrev takes : Choice ℕ → ℕ → ℕ → Choice Row → ℕ → Takes
takes tag least most next rank = record { tag = tag; least = least; most = most; next = next; rank = rank }

abbrev table : Row → Takes
table Rules = takes (Some rule_tag) 0 limits.rules (Some Procedures) 19
table Procedures = takes (Some procedure_tag) 0 limits.procedures (Some main_row) 18
table Variables = takes (Some variables_tag) 1 1 (Some Left) 9
table Left = takes (Some left_tag) 1 1 (Some Right) 8
table Right = takes (Some right_tag) 1 1 (Some Interface) 7
table Interface = takes (Some interface_tag) 1 1 (Some Conditions) 6
table Conditions = takes (Some tests_tag) 1 1 (Some Modes) 5
table Modes = takes (Some mode_tag) 0 1 None 1
table Nodes = takes (Some node_tag) 0 limits.nodes (Some Edges) 4
table Edges = takes (Some edge_tag) 0 limits.edges None 3
table Tests = takes None 0 limits.tests None 2
table Elements = takes None 0 limits.elements None 2
table Operands = takes None 2 2 None 1
table (Sequence depth) = takes None 1 limits.commands None (suc depth)
table (Guarded depth) = takes None 3 3 None (suc depth)
table (One depth) = takes None 1 1 None (suc depth)

abbrev pub tag_of : Row → Choice ℕ
tag_of row = (table row).tag

abbrev pub least_of : Row → ℕ
least_of row = (table row).least

abbrev pub most_of : Row → ℕ
most_of row = (table row).most

abbrev pub next_of : Row → Choice Row
next_of row = (table row).next

abbrev pub rank : Row → ℕ
rank row = (table row).rank

abbrev pub passing : Choice ℕ → ℕ → Bool
passing None tag = true
passing (Some t) tag = eqb t tag

abbrev pub passes_of : Row → ℕ → Bool
passes_of row tag = passing (tag_of row) tag

-- one more item begins at a place, where there are n
unfoldable pub belonging : Row → ℕ → List ℕ → ℕ → Bool
belonging row n bs at = both (ltb at (length bs)) (both (ltb n (most_of row)) (passes_of row (get_or bs at 0)))

-- A row is read, it has enough items, and what is behind it is as it should be.

unfoldable pub met : {A : Type 0} → (ℕ → Bool) → (List ℕ → Bool) → Option (Read A) → Bool
met enough later none = false
met enough later (some r) = both (enough (length r.items)) (later r.rest)

abbrev pub opens : Row → (List ℕ → Bool) → List ℕ → Bool
opens row later bs = met (leb (least_of row)) later (leading (passes_of row) (read row) (most_of row) bs)

unfoldable pub behind : Row → List ℕ → Bool
behind Rules = opens Procedures (opens main_row is_empty)
behind Procedures = opens main_row is_empty
behind Variables = opens Left (opens Right (opens Interface (opens Conditions (opens Modes is_empty))))
behind Left = opens Right (opens Interface (opens Conditions (opens Modes is_empty)))
behind Right = opens Interface (opens Conditions (opens Modes is_empty))
behind Interface = opens Conditions (opens Modes is_empty)
behind Conditions = opens Modes is_empty
behind Modes = is_empty
behind Nodes = opens Edges is_empty
behind Edges = is_empty
behind Tests = is_empty
behind Elements = is_empty
behind Operands = is_empty
behind (Sequence depth) = is_empty
behind (Guarded depth) = is_empty
behind (One depth) = is_empty

-- the bytes are a row and those behind it
abbrev pub fits : Row → List ℕ → Bool
fits row bs = opens row (behind row) bs

-- the first bytes of an item tell whether it has the form, or the row, below `most`, that the rest must begin with
pub record Holds (most : ℕ) (form : Bool) (bs : List ℕ) (row : Row) (from : ℕ) : Type 0 where
  pub lower : rank row < most
  pub inside : from ≤ length bs
  pub same : fits row (drop from bs) ≡ form

abbrev pub Tells : ℕ → Bool → List ℕ → Inside → Type 0
Tells most form bs (Known ok) = ok ≡ form
Tells most form bs (From row from) = Holds most form bs row from
