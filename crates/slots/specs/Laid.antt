-- The label that bytes of a table, or a constant's in a rule, are. Rests on the meaning's Layout.
use Rattle.std.specs.Prelude.{List, map, ℕ}
use Rattle.meaning.specs.Numbers.{number}
use Rattle.meaning.specs.Layout.{atom_length, cut}

-- the atoms that lie in the bytes, one behind the other
abbrev pub laid : List ℕ → List ℕ
laid b = map number (cut atom_length b)
