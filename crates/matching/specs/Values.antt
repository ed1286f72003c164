-- What the first match comes with: its slots, and the values of its variables. Rests on Next and the meaning's FirstMatch.
use Rattle.std.specs.Prelude.{ℕ, ◌+◌, ◌<◌, ◌≤◌, ◌≡◌, ◌⊎◌, false, Option, Some, List, length, get_or, take}
use Rattle.std.proofs.Math.Option.{some}
use Rattle.meaning.specs.Basics.{absent}
use Rattle.meaning.specs.Numbers.{whole}
use Rattle.meaning.specs.Layout.{Host, host_of}
use Rattle.meaning.specs.Image.{Rule, rule, most_items}
use Rattle.meaning.specs.References.{labels, names}
use Rattle.meaning.specs.FirstMatch.{first_with, first_match}
use Rattle.meaning.specs.Assigned.{assigned}
use Rattle.meaning.specs.declared.Layout.{Layout}
use Rattle.values.specs.Values.{values_of, Stored, values_room}
use Rattle.matching.specs.Next.{Of, slots_at}
use Rattle.meaning.specs.Matching.{total}

-- atoms are copied to a place, and nothing else changes
pub record Copied (start : ℕ) (new before after : List ℕ) : Type 0 where
  pub room : length after ≡ values_room
  pub words : (j : ℕ) → j < length new → get_or new j 0 < whole
  pub inside : (j : ℕ) → j < length new → get_or after (start + j) 0 ≡ get_or new j 0
  pub outside : (x : ℕ) → (x < start) ⊎ (start + length new ≤ x) → get_or after x 0 ≡ get_or before x 0

-- each of the first n variables that a left item has got the value that the placement p gives it
abbrev pub HasValues : Host → Rule → List ℕ → ℕ → List ℕ → List ℕ → Type 0
HasValues h r p n lens atoms =
    (v : ℕ) → v < n → first_with v (labels r.left) < total r → values_of lens atoms v ≡ assigned h r p v

module _ (L : Layout) (nodes edges bs : List ℕ) where
  -- the first placement of the rule that the plan is of, or none, with the values that it gives
  pub record Sought (plan : List ℕ) (x : Option (List ℕ)) (lens atoms : List ℕ) : Type 0 where
    pub room : (slots : List ℕ) → x ≡ Some slots → length slots ≡ most_items
    pub arrays : Stored lens atoms
    pub right : Of bs plan (λ r. slots_at (total r) x ≡ first_match (host_of L nodes edges) r)
    pub values : Of bs plan (λ r. (slots : List ℕ) → x ≡ Some slots
        → HasValues (host_of L nodes edges) r (take (total r) slots) (length r.variables) lens atoms)

  -- the first match of the rule that the bytes are, with the values of the variables that occur on the left
  pub record IsFirst (x : Option (List ℕ)) (lens atoms : List ℕ) : Type 0 where
    pub room : (slots : List ℕ) → x ≡ Some slots → length slots ≡ most_items
    pub arrays : Stored lens atoms
    pub right : (r : Rule) → rule bs ≡ some r → slots_at (total r) x ≡ first_match (host_of L nodes edges) r
    pub values : (r : Rule) → rule bs ≡ some r → (slots : List ℕ) → x ≡ Some slots → (v : ℕ) → absent v (names r.left) ≡ false
        → values_of lens atoms v ≡ assigned (host_of L nodes edges) r (take (total r) slots) v
