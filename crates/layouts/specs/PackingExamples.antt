-- Computed cases: tables that are packed and unpacked, with as many slots, more and fewer; carryings that are refused; programs that the
-- small core has no room for and the wide one has; and one run for which all that `unpacked-same` asks is met.
-- Rests on Packing and ExampleTables, on the demands' First, Second and Cases, and on the meaning's ProvedSet and Computing.
use Rattle.std.specs.Prelude.{List, [], ◌∷◌, ◌++◌, ℕ, ◌*◌, replicate}
use Rattle.meaning.specs.Basics.{padded}
use Rattle.meaning.specs.Layout.{base, small, node_length, edge_length, atom_bytes}
use Rattle.meaning.specs.Calls.{Lent}
use Rattle.meaning.specs.Carrying.{lending_tables, unpack}
use Rattle.meaning.specs.Tags.{loop_tag}
use Rattle.meaning.specs.ProvedSet.{field_bytes, rule_field, node_field, variable_field, rule_set_field, skip_field}
use Rattle.meaning.specs.declared.Layout.{Layout}
use Rattle.layouts.specs.ExampleTables.{node, seven_nodes, lent, reddens}

-- Packed and unpacked, over sevens: a node labelled 300 in slot 0, a red one without a label in slot 1, and a blue edge labelled 9 from
-- slot 1 to slot 0. The small bytes one by one: state, mark, root, length, atom; and state, mark, zero, length, source, target, atom.

abbrev pub wide_nodes : List ℕ
wide_nodes = node base 0 (300 ∷ []) ++ node base 1 []

abbrev pub wide_edge : List ℕ
wide_edge = padded (edge_length base) (1 ∷ 3 ∷ 0 ∷ 1 ∷ 0 ∷ 1 ∷ 0 ∷ 0 ∷ atom_bytes (9 ∷ []))

abbrev pub small_nodes : List ℕ
small_nodes = 1 ∷ 0 ∷ 0 ∷ 1 ∷ 0 ∷ 0 ∷ 1 ∷ 44 ∷ 1 ∷ 1 ∷ 0 ∷ 0 ∷ 0 ∷ 0 ∷ 0 ∷ 0 ∷ []

abbrev pub small_edge : List ℕ
small_edge = 1 ∷ 3 ∷ 0 ∷ 1 ∷ 1 ∷ 0 ∷ 0 ∷ 0 ∷ 0 ∷ 9 ∷ []

-- so many free slots, of nodes and of edges
abbrev pub free_nodes : Layout → ℕ → List ℕ
free_nodes L n = replicate (n * node_length L) 0

abbrev pub free_edges : Layout → ℕ → List ℕ
free_edges L n = replicate (n * edge_length L) 0

-- Of answers 3 to 6 nothing is said: what the small core has no room for gives a result on the unpacked tables.

-- nodes alone, unpacked to so many slots
abbrev pub unpacked_nodes : List ℕ → ℕ → List ℕ
unpacked_nodes nodes slots = (unpack (lending_tables nodes [] (seven_nodes base slots) [])).nodes

-- a node labelled x comes to be labelled x x: answer 6, since a label of two atoms is too large for the small core
abbrev pub doubles : List ℕ
doubles = rule_field (1 ∷ []) (node_field 0 (variable_field 0)) (node_field 0 (variable_field 0 ++ variable_field 0)) 1 ++ rule_set_field 0

-- a node comes to be two, with a record of either: answer 3 where there is one slot
abbrev pub grows : List ℕ
grows = rule_field [] (node_field 0 []) (node_field 0 [] ++ node_field 0 []) 1 ++ rule_set_field 0

-- A loop of skip is out of fuel on both.

abbrev pub endless : List ℕ
endless = field_bytes loop_tag skip_field

-- All that the theorem on unpacked tables asks is met, of one slot and 8 records on the small core, and two slots and 9 records on the
-- wide one.

abbrev pub x : Lent
x = lent small 8 reddens (node small 0 (300 ∷ []))

abbrev pub y : Lent
y = lent base 9 reddens (node base 0 (300 ∷ []) ++ free_nodes base 1)
