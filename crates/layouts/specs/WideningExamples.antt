-- Computed cases: tables that are widened and narrowed, and that are refused; a program that can't hold a label with four atoms and can
-- with eight; and one for which all that `widened-run` asks is met. Rests on Widening and ExampleTables, on the demands' First, Second and
-- Cases, and on the meaning's ProvedSet and Computing.
use Rattle.std.specs.Prelude.{List, [], ◌∷◌, ◌++◌, ℕ, length}
use Rattle.meaning.specs.Basics.{padded}
use Rattle.meaning.specs.Layout.{base, four, edge_length, atom_bytes}
use Rattle.meaning.specs.Calls.{Lent}
use Rattle.meaning.specs.ProvedSet.{rule_field, node_field, variable_field, rule_set_field}
use Rattle.meaning.specs.declared.Layout.{Layout}
use Rattle.layouts.specs.ExampleTables.{node, lent, reddens}

-- a blue loop at slot 0, of a label

abbrev pub loop_edge : Layout → List ℕ → List ℕ
loop_edge L label = padded (edge_length L) (1 ∷ 3 ∷ 0 ∷ length label ∷ 0 ∷ 0 ∷ 0 ∷ 0 ∷ atom_bytes label)

abbrev pub four_atoms : List ℕ
four_atoms = 1 ∷ 2 ∷ 300 ∷ 4 ∷ []

-- A program that labels a node x anew with five x.

abbrev pub five_times : List ℕ
five_times =
    rule_field (1 ∷ []) (node_field 0 (variable_field 0))
    (node_field 0 (variable_field 0 ++ variable_field 0 ++ variable_field 0 ++ variable_field 0 ++ variable_field 0)) 1
    ++ rule_set_field 0

-- All that the theorem on widened tables asks is met.

abbrev pub x : Lent
x = lent four 8 reddens (node four 0 four_atoms)

abbrev pub y : Lent
y = lent base 8 reddens (node base 0 four_atoms)
