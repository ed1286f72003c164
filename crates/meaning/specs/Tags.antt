-- The tags of an image's fields, and the other bytes that stand for a word of document 01; marks stand in tables too.
-- Rests on the libraries alone.
use Rattle.std.specs.Prelude.{ℕ}

-- A rule, and its parts.

abbrev pub rule_tag : ℕ
rule_tag = 0x10

abbrev pub variables_tag : ℕ
variables_tag = 0x11

abbrev pub left_tag : ℕ
left_tag = 0x12

abbrev pub right_tag : ℕ
right_tag = 0x13

abbrev pub interface_tag : ℕ
interface_tag = 0x14

abbrev pub tests_tag : ℕ
tests_tag = 0x15

abbrev pub mode_tag : ℕ
mode_tag = 0x16

-- A procedure.

abbrev pub procedure_tag : ℕ
procedure_tag = 0x17

-- The items of a graph.

abbrev pub node_tag : ℕ
node_tag = 0x20

abbrev pub edge_tag : ℕ
edge_tag = 0x21

-- The elements of a label; the first two are operands too.

abbrev pub constant_tag : ℕ
constant_tag = 0x30

abbrev pub variable_tag : ℕ
variable_tag = 0x31

abbrev pub sum_tag : ℕ
sum_tag = 0x32

abbrev pub difference_tag : ℕ
difference_tag = 0x33

-- Tests.

abbrev pub edge_test_tag : ℕ
edge_test_tag = 0x40

abbrev pub in_degree_tag : ℕ
in_degree_tag = 0x41

abbrev pub out_degree_tag : ℕ
out_degree_tag = 0x42

abbrev pub relation_tag : ℕ
relation_tag = 0x43

-- Commands.

abbrev pub rule_set_tag : ℕ
rule_set_tag = 0x50

abbrev pub sequence_tag : ℕ
sequence_tag = 0x51

abbrev pub loop_tag : ℕ
loop_tag = 0x54

abbrev pub skip_tag : ℕ
skip_tag = 0x55

abbrev pub fail_tag : ℕ
fail_tag = 0x56

abbrev pub break_tag : ℕ
break_tag = 0x57

abbrev pub call_tag : ℕ
call_tag = 0x58

abbrev pub guarded_tag : ℕ
guarded_tag = 0x59

-- The types of variables, and the relations of a relation test.

abbrev pub int_type : ℕ
int_type = 1

abbrev pub list_type : ℕ
list_type = 2

abbrev pub equal_relation : ℕ
equal_relation = 1

abbrev pub less_relation : ℕ
less_relation = 2

-- Marks: grey is for nodes only, dashed for edges only; any, in rules alone, agrees with every mark.

abbrev pub none_mark : ℕ
none_mark = 0

abbrev pub red_mark : ℕ
red_mark = 1

abbrev pub green_mark : ℕ
green_mark = 2

abbrev pub blue_mark : ℕ
blue_mark = 3

abbrev pub grey_mark : ℕ
grey_mark = 4

abbrev pub dashed_mark : ℕ
dashed_mark = 5

abbrev pub any_mark : ℕ
any_mark = 6
