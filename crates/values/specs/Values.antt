-- The values of a rule's variables as two arrays, a label's value in hand, and which labels of a right side can be held.
-- Rests on the meaning's Applying and on labels' Labels.
use Rattle.std.specs.Prelude.{◌≡◌, Bool, List, [], ◌∷◌, map, ℕ, ◌+◌, ◌-◌, ◌*◌, ◌≤◌, length, get_or, take, drop, leb, ltb, Option as Maybe, Some, None}
use Rattle.std.proofs.Math.Option.{Option, some, none}
use Rattle.meaning.specs.Basics.{both, every, concat, is_some, ensure, ◌>>◌, ◌>>=◌}
use Rattle.meaning.specs.Numbers.{half, whole, height}
use Rattle.meaning.specs.Layout.{most_atoms}
use Rattle.meaning.specs.Image.{RuleGraph, limits}
use Rattle.meaning.specs.References.{element_names, labels}
use Rattle.meaning.specs.Matching.{Assignment}
use Rattle.meaning.specs.Applying.{label_value}
use Rattle.meaning.specs.Laws.Every.{Every}
use Rattle.laws.specs.Layout.{Words}
use Rattle.meaning.specs.declared.Element.{Element}
use Rattle.labels.specs.Labels.{atoms_in, Held}
use Rattle.labels.specs.declared.Label.{Label}

-- The arrays.

-- the atoms of all variables
abbrev pub values_room : ℕ
values_room = 48

-- variable v has as many atoms as `lens` says, from place most_atoms * v of `atoms` on
abbrev pub values_of : List ℕ → List ℕ → Assignment
values_of lens atoms v = take (get_or lens v 0) (drop (most_atoms * v) atoms)

-- as many variables as a rule has at most, each of at most so many atoms, all of them words
pub record Stored (lens atoms : List ℕ) : Type 0 where
  pub variables : length lens ≡ limits.variables
  pub room : length atoms ≡ values_room
  pub few : (v : ℕ) → get_or lens v 0 ≤ most_atoms
  pub words : Words atoms

-- two assignments have the same values at the variables of the list
abbrev pub Agree : Assignment → Assignment → List ℕ → Type 0
Agree α β vs = Every (λ v. α v ≡ β v) vs

-- the variables that a label names
abbrev pub label_names : List Element → List ℕ
label_names l = concat (map element_names l)

-- Values in hand.

-- an atom that may not be there
abbrev pub as_option : Maybe ℕ → Option ℕ
as_option (Some x) = some x
as_option None = none

-- the atom whose height is h less 2^31, where there is one
unfoldable pub lowered : ℕ → Option ℕ
lowered h = do
  ensure (both (leb half h) (ltb h (whole + half)))
  some (height (h - half))

-- a label of one atom
abbrev pub of_atom : Option ℕ → Option (List ℕ)
of_atom o = o >>= λ n. some (n ∷ [])

-- the atoms of the label that can be held, or none
abbrev pub value_in : Maybe Label → Option (List ℕ)
value_in (Some a) = some (atoms_in a)
value_in None = none

-- a label in hand of at most `most` atoms
pub record Short (most : ℕ) (a : Label) : Type 0 where
  pub held : Held a
  pub few : a.len ≤ most

-- the label that can be held is one
abbrev pub Kept : ℕ → Maybe Label → Type 0
Kept most (Some a) = Short most a
Kept most None = Unit {0}

-- the atoms, where a label holds them
unfoldable pub fitting : ℕ → List ℕ → Option (List ℕ)
fitting most m = do
  ensure (leb (length m) most)
  some m

-- all labels of a right graph can be held
unfoldable pub all_held : ℕ → Assignment → RuleGraph → Bool
all_held most α g = every (λ l. is_some (label_value most α l)) (labels g)
