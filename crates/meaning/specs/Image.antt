-- The program image: the tree that is read from it, with calls of procedures by their numbers, and the reader of bytes, which
-- succeeds exactly on what has the form of document 01 (answer 16). Rests on Basics, Numbers, Tags and, for marks, Layout, and on
-- the code's Operand, Element, Condition and Test.
use Rattle.std.specs.Prelude.{Bool, true, false, List, [], ◌∷◌, ℕ, zero, suc, ◌+◌, ◌-◌, length, get_or, take, drop, eqb, leb}
use Rattle.std.proofs.Math.Option.{Option, some, none}
use Rattle.meaning.specs.Basics.{choose, both, either, every, is_empty, ensure, ◌>>◌, ◌>>=◌}
use Rattle.meaning.specs.Numbers.{number}
use Rattle.meaning.specs.Layout.{is_node_mark, is_edge_mark}
use Rattle.meaning.specs.Tags.{rule_tag, procedure_tag, variables_tag, left_tag, right_tag, interface_tag, tests_tag, mode_tag, node_tag, edge_tag, constant_tag, variable_tag, sum_tag, difference_tag, edge_test_tag, in_degree_tag, out_degree_tag, relation_tag, rule_set_tag, sequence_tag, loop_tag, skip_tag, fail_tag, break_tag, call_tag, guarded_tag, int_type, list_type, equal_relation, less_relation, any_mark}
use Rattle.meaning.specs.declared.Operand.{Operand}
use Rattle.meaning.specs.declared.Operand.TheVariants.{Constant as constant_operand, Variable as variable_operand}
use Rattle.meaning.specs.declared.Element.{Element}
use Rattle.meaning.specs.declared.Element.TheVariants.{Constant, Variable, Sum, Difference}
use Rattle.meaning.specs.declared.Condition.{Condition}
use Rattle.meaning.specs.declared.Condition.TheVariants.{Edge, InDegree, OutDegree, Equal, Less}
use Rattle.meaning.specs.declared.Test.{Test}

-- The tree.

pub record RuleNode : Type 0 where
  pub mark : ℕ
  pub root : ℕ
  pub label : List Element

pub record RuleEdge : Type 0 where
  pub mark : ℕ
  pub source : ℕ
  pub target : ℕ
  pub label : List Element

pub record RuleGraph : Type 0 where
  pub nodes : List RuleNode
  pub edges : List RuleEdge

-- variables: their types, 1 int, 2 list; nodes 0 to interface - 1 are the same on both sides; a rule that is not preserving
-- reflects roots
pub record Rule : Type 0 where
  pub variables : List ℕ
  pub left : RuleGraph
  pub right : RuleGraph
  pub interface : ℕ
  pub tests : List Test
  pub preserving : Bool

-- Raw commands: as they are read, with calls by number. What they stand for is in Procedures.
mutual
  -- `guarded keep` is try where a successful guard's changes are kept, and if where they are not; `call i` calls procedure i
  pub data Raw : Type 0 where
    rule_set : List ℕ → Raw
    sequence : Raws → Raw
    guarded : Bool → Raw → Raw → Raw → Raw
    loop : Raw → Raw
    skip : Raw
    fail : Raw
    break : Raw
    call : ℕ → Raw

  pub data Raws : Type 0 where
    no_more : Raws
    then : Raw → Raws → Raws

pub record RawProgram : Type 0 where
  pub rules : List Rule
  pub procedures : List Raw
  pub main : Raw

-- The limits of an image.

pub record Limits : Type 0 where
  pub bytes : ℕ
  pub rules : ℕ
  pub procedures : ℕ
  pub variables : ℕ
  pub nodes : ℕ
  pub edges : ℕ
  pub elements : ℕ
  pub tests : ℕ
  pub numbers : ℕ
  pub commands : ℕ
  pub depth : ℕ

abbrev pub limits : Limits
limits =
    record {
      bytes = 8192;
      rules = 32;
      procedures = 16;
      variables = 6;
      nodes = 6;
      edges = 6;
      elements = 8;
      tests = 4;
      numbers = 8;
      commands = 16;
      depth = 16;
    }

-- the most left items of a rule: its nodes and its edges
abbrev pub most_items : ℕ
most_items = 12

-- Fields: a one-byte tag, a two-byte length and that many bytes.

pub record Field : Type 0 where
  pub tag : ℕ
  pub payload : List ℕ
  pub rest : List ℕ

-- the length that a field states
abbrev pub stated : List ℕ → ℕ
stated bs = number (take 2 (drop 1 bs))

-- the field at the front of the bytes, and what is behind it
unfoldable pub field : List ℕ → Option Field
field bs = do
  ensure (leb 3 (length bs))
  ensure (leb (stated bs) (length bs - 3))
  some (record { tag = get_or bs 0 0; payload = take (stated bs) (drop 3 bs); rest = drop (3 + stated bs) bs })

unfoldable pub expect : ℕ → List ℕ → Option Field
expect tag bs = do
  d ← field bs
  ensure (eqb d.tag tag)
  some d

pub record Read (A : Type 0) : Type 0 where
  pub items : List A
  pub rest : List ℕ

-- at most n fields at the front whose tag passes, each read by `item` from its tag and payload, and what is behind them
unfoldable pub leading : {A : Type 0} → (ℕ → Bool) → (ℕ → List ℕ → Option A) → ℕ → List ℕ → Option (Read A)
leading passes item zero bs = some (record { items = []; rest = bs })
leading passes item (suc n) [] = some (record { items = []; rest = [] })
leading {A} passes item (suc n) (t ∷ bs) =
    let next : Option (Read A) = do
      d ← field (t ∷ bs)
      a ← item d.tag d.payload
      r ← leading passes item n d.rest
      some (record { items = a ∷ r.items; rest = r.rest })
    in
    choose (passes t) next (some (record { items = []; rest = t ∷ bs }))

-- the same, with nothing behind them
unfoldable pub only : {A : Type 0} → (ℕ → Bool) → (ℕ → List ℕ → Option A) → ℕ → List ℕ → Option (List A)
only passes item n bs = do
  r ← leading passes item n bs
  ensure (is_empty r.rest)
  some r.items

abbrev pub passes_all : ℕ → Bool
passes_all t = true

-- Single values, operands and label elements.

unfoldable pub constant : List ℕ → Option ℕ
constant bs = do
  ensure (eqb (length bs) 4)
  some (number bs)

unfoldable pub one_byte : List ℕ → Option ℕ
one_byte bs = do
  ensure (eqb (length bs) 1)
  some (get_or bs 0 0)

-- a byte in front, 1 for yes or 0 for no
unfoldable pub flag : List ℕ → Option Bool
flag bs = do
  ensure (both (leb 1 (length bs)) (leb (get_or bs 0 0) 1))
  some (eqb (get_or bs 0 0) 1)

unfoldable pub operand : ℕ → List ℕ → Option Operand
operand tag bs =
    choose (eqb tag constant_tag) (constant bs >>= λ c. some (constant_operand c))
    (choose (eqb tag variable_tag) (one_byte bs >>= λ v. some (variable_operand v)) none)

pub record Pair : Type 0 where
  pub first : Operand
  pub second : Operand

unfoldable pub as_pair : List Operand → Option Pair
as_pair [] = none
as_pair (a ∷ []) = none
as_pair (a ∷ b ∷ []) = some (record { first = a; second = b })
as_pair (a ∷ b ∷ c ∷ l) = none

-- exactly two operands
unfoldable pub two_operands : List ℕ → Option Pair
two_operands bs = only passes_all operand 2 bs >>= as_pair

unfoldable pub element : ℕ → List ℕ → Option Element
element tag bs =
    choose (eqb tag constant_tag) (constant bs >>= λ c. some (Constant c))
    (choose (eqb tag variable_tag) (one_byte bs >>= λ v. some (Variable v))
    (choose (eqb tag sum_tag) (two_operands bs >>= λ p. some (Sum p.first p.second))
    (choose (eqb tag difference_tag) (two_operands bs >>= λ p. some (Difference p.first p.second)) none)))

unfoldable pub label : List ℕ → Option (List Element)
label bs = only passes_all element limits.elements bs

-- Graphs. Mark any is legal in form on nodes and edges.

unfoldable pub rule_node : List ℕ → Option RuleNode
rule_node bs = do
  ensure (leb 2 (length bs))
  ensure (either (is_node_mark (get_or bs 0 0)) (eqb (get_or bs 0 0) any_mark))
  ensure (leb (get_or bs 1 0) 1)
  l ← label (drop 2 bs)
  some (record { mark = get_or bs 0 0; root = get_or bs 1 0; label = l })

unfoldable pub rule_edge : List ℕ → Option RuleEdge
rule_edge bs = do
  ensure (leb 3 (length bs))
  ensure (either (is_edge_mark (get_or bs 0 0)) (eqb (get_or bs 0 0) any_mark))
  l ← label (drop 3 bs)
  some
      (record { mark = get_or bs 0 0; source = get_or bs 1 0; target = get_or bs 2 0; label = l })

-- nodes, then edges
unfoldable pub rule_graph : List ℕ → Option RuleGraph
rule_graph bs = do
  n ← leading (eqb node_tag) (λ tag. rule_node) limits.nodes bs
  e ← only (eqb edge_tag) (λ tag. rule_edge) limits.edges n.rest
  some (record { nodes = n.items; edges = e })

-- Tests.

unfoldable pub relation : ℕ → Pair → Option Condition
relation kind p =
    choose (eqb kind equal_relation) (some (Equal p.first p.second))
    (choose (eqb kind less_relation) (some (Less p.first p.second)) none)

-- the condition of a test, from its tag and the bytes behind its flag
unfoldable pub condition : ℕ → List ℕ → Option Condition
condition tag bs =
    choose (eqb tag edge_test_tag) (ensure (eqb (length bs) 2) >> some (Edge (get_or bs 0 0) (get_or bs 1 0)))
    (choose (eqb tag in_degree_tag) (ensure (eqb (length bs) 3) >> some (InDegree (get_or bs 0 0) (number (drop 1 bs))))
    (choose (eqb tag out_degree_tag) (ensure (eqb (length bs) 3) >> some (OutDegree (get_or bs 0 0) (number (drop 1 bs))))
    (choose (eqb tag relation_tag) (ensure (leb 1 (length bs)) >> (two_operands (drop 1 bs) >>= relation (get_or bs 0 0))) none)))

-- the flag says whether the test is negated
unfoldable pub test : ℕ → List ℕ → Option Test
test tag bs = do
  negated ← flag bs
  c ← condition tag (drop 1 bs)
  some (record { negated = negated; condition = c })

-- Rules: exactly 0x11 to 0x15, and behind them at most one 0x16.

unfoldable pub is_type : ℕ → Bool
is_type t = either (eqb t int_type) (eqb t list_type)

unfoldable pub types : List ℕ → Option (List ℕ)
types bs = do
  ensure (leb (length bs) limits.variables)
  ensure (every is_type bs)
  some bs

-- a flag and nothing behind it: 1 for preserving
unfoldable pub mode : List ℕ → Option Bool
mode bs = do
  ensure (eqb (length bs) 1)
  flag bs

-- whether a rule that has these modes, of which there is one at most, is preserving
unfoldable pub preserves : List Bool → Bool
preserves [] = false
preserves (b ∷ l) = b

unfoldable pub rule : List ℕ → Option Rule
rule bs = do
  v ← expect variables_tag bs
  l ← expect left_tag v.rest
  r ← expect right_tag l.rest
  k ← expect interface_tag r.rest
  t ← expect tests_tag k.rest
  modes ← only (eqb mode_tag) (λ tag. mode) 1 t.rest
  variables ← types v.payload
  left ← rule_graph l.payload
  right ← rule_graph r.payload
  interface ← one_byte k.payload
  tests ← only passes_all test limits.tests t.payload
  some
      (record {
        variables = variables;
        left = left;
        right = right;
        interface = interface;
        tests = tests;
        preserving = preserves modes;
      })

-- Commands, nested at most n deep.

unfoldable pub in_order : List Raw → Raws
in_order [] = no_more
in_order (c ∷ l) = then c (in_order l)

unfoldable pub leaf : Raw → List ℕ → Option Raw
leaf c bs = do
  ensure (is_empty bs)
  some c

unfoldable pub as_rule_set : List ℕ → Option Raw
as_rule_set bs = do
  ensure (both (leb 1 (length bs)) (leb (length bs) limits.numbers))
  some (rule_set bs)

unfoldable pub as_sequence : List Raw → Option Raw
as_sequence [] = none
as_sequence (c ∷ l) = some (sequence (then c (in_order l)))

unfoldable pub as_guarded : Bool → List Raw → Option Raw
as_guarded keep [] = none
as_guarded keep (a ∷ []) = none
as_guarded keep (a ∷ b ∷ []) = none
as_guarded keep (a ∷ b ∷ c ∷ []) = some (guarded keep a b c)
as_guarded keep (a ∷ b ∷ c ∷ d ∷ l) = none

unfoldable pub as_loop : List Raw → Option Raw
as_loop [] = none
as_loop (c ∷ []) = some (loop c)
as_loop (c ∷ d ∷ l) = none

unfoldable pub as_call : List ℕ → Option Raw
as_call bs = one_byte bs >>= λ i. some (call i)

-- every command but calls and the guarded one; `parts` reads the commands in it
unfoldable pub unguarded : (List ℕ → Option (List Raw)) → ℕ → List ℕ → Option Raw
unguarded parts tag bs =
    choose (eqb tag rule_set_tag) (as_rule_set bs)
    (choose (eqb tag sequence_tag) (parts bs >>= as_sequence)
    (choose (eqb tag loop_tag) (parts bs >>= as_loop)
    (choose (eqb tag skip_tag) (leaf skip bs)
    (choose (eqb tag fail_tag) (leaf fail bs)
    (choose (eqb tag break_tag) (leaf break bs) none)))))

-- the flag of a guarded command says whether a successful guard's changes are kept
unfoldable pub command : ℕ → ℕ → List ℕ → Option Raw
command zero tag bs = none
command (suc n) tag bs =
    let parts : List ℕ → Option (List Raw) = only passes_all (command n) limits.commands in
    choose (eqb tag guarded_tag) (flag bs >>= λ keep. parts (drop 1 bs) >>= as_guarded keep)
    (choose (eqb tag call_tag) (as_call bs) (unguarded parts tag bs))

-- The whole image: rules, then procedures, then one command, then nothing. A procedure is one command, and nothing else.

-- `read` reads a command from its tag and payload
unfoldable pub one_command : (ℕ → List ℕ → Option Raw) → List ℕ → Option Raw
one_command read bs = do
  d ← field bs
  ensure (is_empty d.rest)
  read d.tag d.payload

-- with at most so many procedures
unfoldable pub program_by : ℕ → (ℕ → List ℕ → Option Raw) → List ℕ → Option RawProgram
program_by most read bs = do
  r ← leading (eqb rule_tag) (λ tag. rule) limits.rules bs
  k ← leading (eqb procedure_tag) (λ tag. one_command read) most r.rest
  c ← one_command read k.rest
  some (record { rules = r.items; procedures = k.items; main = c })

unfoldable pub raw_program : List ℕ → Option RawProgram
raw_program bs = program_by limits.procedures (command limits.depth) bs
