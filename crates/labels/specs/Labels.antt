-- What a label in hand holds. Rests on the meaning's Numbers and Layout.
use Rattle.std.specs.Prelude.{◌≡◌, List, ℕ, ◌<◌, ◌≤◌, length, get_or, take}
use Rattle.meaning.specs.Numbers.{whole}
use Rattle.meaning.specs.Layout.{most_atoms}
use Rattle.labels.specs.declared.Label.{Label}

-- the label's atoms
abbrev pub atoms_in : Label → List ℕ
atoms_in a = take a.len a.atoms

-- the label has room for its atoms, and each is a word
pub record Held (a : Label) : Type 0 where
  pub few : a.len ≤ most_atoms
  pub room : length a.atoms ≡ most_atoms
  pub small : (i : ℕ) → get_or a.atoms i 0 < whole

-- and they are these
pub record Holds (m : List ℕ) (a : Label) : Type 0 where
  pub held : Held a
  pub atoms : atoms_in a ≡ m
