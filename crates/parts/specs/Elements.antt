-- What the bytes of a label begin with, and which counts are those of its elements. Rests on the meaning's Image and References,
-- and on Series.
use Rattle.std.specs.Prelude.{◌≡◌, Option, Some, None, List, [], ◌∷◌, ℕ, ◌-◌, ◌<◌, ◌≤◌, length, take, drop}
use Rattle.meaning.specs.Image.{Rule, element}
use Rattle.meaning.specs.References.{lists}
use Rattle.meaning.specs.declared.Element.{Element}
use Rattle.parts.specs.Series.{Series}
use Rattle.parts.specs.declared.Counts.{Counts}

-- the bytes are those of the elements
abbrev pub Spells : List ℕ → List Element → Type 0
Spells bs l = Series element l [] bs

-- the part of the bytes from a place on
abbrev pub behind : List ℕ → ℕ → List ℕ
behind bs at = take (length bs - at) (drop at bs)

-- the first of the elements is e, and the rest of the bytes are those of the others
pub record Next (rest : List ℕ) (l : List Element) (e : Element) : Type 0 where
  pub later : List Element
  pub spelt : Spells rest later
  pub whole : l ≡ e ∷ later

-- the bytes begin with the element e, which ends at a place
pub record Begins (bs : List ℕ) (e : Element) (end : ℕ) : Type 0 where
  pub onward : 0 < end
  pub inside : end ≤ length bs
  pub next : (l : List Element) → Spells bs l → Next (behind bs end) l e

-- what is found at the front of them: an element, and the place behind it
abbrev pub Opens : List ℕ → Option (Element × ℕ) → Type 0
Opens bs (Some (e, end)) = Begins bs e end
Opens bs None = (l : List Element) → Spells bs l → l ≡ []

-- the counts are the label's
pub record Counted (x : Rule) (l : List Element) (s : Counts) : Type 0 where
  pub long : s.elements ≡ length l
  pub listed : s.lists ≡ lists x l
