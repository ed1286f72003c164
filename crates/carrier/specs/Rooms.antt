-- The layouts that an input is carried between, and the room that what is printed has. Rests on the meaning's Layout and
-- run_input's Input and Reading.
use Rattle.std.specs.Prelude.{ℕ, ◌+◌, ◌*◌, ◌≤◌}
use Rattle.meaning.specs.Layout.{Sized, most_atoms}
use Rattle.meaning.specs.declared.Layout.{Layout}
use Rattle.run_input.specs.Input.{most_input}
use Rattle.run_input.specs.Reading.{field_head}

-- the bytes of a field with a payload of so many
abbrev pub field_size : ℕ → ℕ
field_size n = field_head + n

-- two tables of so many bytes are an input
abbrev pub InputOf : ℕ → ℕ → Type 0
InputOf n m = field_size n + field_size m ≤ most_input

-- what carrying asks of its layouts; and the largest tables of the second are an input
pub record Between (L M : Layout) : Type 0 where
  pub from : Sized L
  pub to : Sized M
  pub few : L.atoms ≤ most_atoms
  pub room : InputOf (M.nodes * M.node) (M.edges * M.edge)
