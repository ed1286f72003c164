-- What a placement gives a value, and what it is for a label to have it: variables, and elements by their bytes; the atoms that a
-- variable takes of its first item's label; and atoms compared from a place on. Rests on Placed and on the meaning's FirstMatch
-- and Assigned.
use Rattle.std.specs.Prelude.{◌≡◌, true, false, Option, Some, None, List, [], ℕ, ◌+◌, ◌<◌, ◌≤◌, length, take, drop}
use Rattle.std.proofs.Math.Option.{some}
use Rattle.meaning.specs.Basics.{same}
use Rattle.meaning.specs.Layout.{Host}
use Rattle.meaning.specs.Image.{Rule, element as read_element, label}
use Rattle.meaning.specs.References.{element_names, labels}
use Rattle.meaning.specs.Matching.{total}
use Rattle.meaning.specs.FirstMatch.{first_with}
use Rattle.meaning.specs.Assigned.{spare, taken, or_else}
use Rattle.meaning.specs.Laws.Every.{Every}
use Rattle.meaning.specs.declared.Element.{Element}
use Rattle.plan.specs.Plan.{Planned, label_of}
use Rattle.agreeing.specs.Placed.{Trial}

-- What the placement gives a value.

-- variable v is one of the rule's, and the first item with it is placed
abbrev pub Valued : Rule → List ℕ → ℕ → Type 0
Valued r q v = (v < length r.variables) × (first_with v (labels r.left) < length q)

-- so is each variable of the element
abbrev pub ElementValued : Rule → List ℕ → Element → Type 0
ElementValued r q e = Every (Valued r q) (element_names e)

module _ (h : Host) (bs plan at : List ℕ) (i c : ℕ) where
  pub record HasValue (v : ℕ) : Type 0 where
    pub trial : Trial h bs plan at i c
    pub valued : Valued trial.rule trial.placed v

  -- the bytes with the tag are those of an element that has values
  pub record HasElement (tag : ℕ) (bytes : List ℕ) : Type 0 where
    pub trial : Trial h bs plan at i c
    pub element : Element
    pub spelt : read_element tag bytes ≡ some element
    pub valued : ElementValued trial.rule trial.placed element

  -- the bytes are those of elements that have values
  pub record HasElements (bytes : List ℕ) : Type 0 where
    pub trial : Trial h bs plan at i c
    pub elements : List Element
    pub spelt : label bytes ≡ some elements
    pub valued : Every (ElementValued trial.rule trial.placed) elements

-- Where values are.

-- variable v is one of the rule's, and a left item has it
pub record OnLeft (bs plan : List ℕ) (v : ℕ) : Type 0 where
  pub rule : Rule
  pub planned : Planned bs rule plan
  pub there : v < length rule.variables
  pub placed : first_with v (labels rule.left) < total rule

-- of a label of so many atoms, variable v takes the n from a place on, at the first item that has it
abbrev pub Takes : Rule → ℕ → ℕ → ℕ → ℕ → Type 0
Takes r v len from n =
    (m : List ℕ) → length m ≡ len
    → take n (drop from m)
    ≡ or_else (taken r v (spare r (label_of r (first_with v (labels r.left))) len) (label_of r (first_with v (labels r.left))) m) []

-- the atoms m have b from a place on, and up to where; or they don't
abbrev pub AgreesFrom : List ℕ → ℕ → List ℕ → Option ℕ → Type 0
AgreesFrom m from b (Some k) = (k ≡ from + length b) × (k ≤ length m) × (same (take (length b) (drop from m)) b ≡ true)
AgreesFrom m from b None = same (take (length b) (drop from m)) b ≡ false
