-- Names by the places where they begin, and what is asked of the names of items that are listed at places. Rests on lexing's
-- Lexing, on items' Items and on the text's Text.
use Rattle.std.specs.Prelude.{◌≡◌, Bool, Option, Some, None, List, map, ℕ, ◌<◌, length}
use Rattle.meaning.specs.Basics.{every}
use Rattle.meaning.specs.declared.Table.{Table}
use Rattle.meaning.specs.declared.Table.TheVariants.{Nodes, Edges}
use Rattle.text.specs.Grammar.{EdgeItem, Listed, index}
use Rattle.text.specs.Text.{ends_known, names_hold}
use Rattle.lexing.specs.Lexing.{name_at}
use Rattle.items.specs.Items.{ItemOf, At, Places}

-- the number of the first of these names that is this one, where there is one
abbrev pub Found : List ℕ → List (List ℕ) → Option ℕ → Type 0
Found id l (Some i) = (index id l ≡ i) × (i < length l)
Found id l None = index id l ≡ length l

module _ (bs : List ℕ) where
  abbrev pub names_at : List ℕ → List (List ℕ)
  names_at ps = map (name_at bs) ps

  -- each item is at its place, and there are as many places as items
  pub record ListedAt (t : Table) (l : List (ItemOf t)) (ps : List ℕ) : Type 0 where
    pub count : length ps ≡ length l
    pub places : Places bs t l ps

  -- What is found of the edge at a place, of edges at places, and of a graph whose items are at places.

  abbrev pub EndsKnown : List ℕ → ℕ → Bool → Type 0
  EndsKnown node_places p r = (e : EdgeItem) → At bs Edges p e → r ≡ ends_known (names_at node_places) e

  abbrev pub AllEndsKnown : List ℕ → List ℕ → Bool → Type 0
  AllEndsKnown node_places edge_places r =
      (l : List EdgeItem) → ListedAt Edges l edge_places → r ≡ every (ends_known (names_at node_places)) l

  abbrev pub NamesHold : List ℕ → List ℕ → Bool → Type 0
  NamesHold node_places edge_places r =
      (g : Listed) → ListedAt Nodes g.nodes node_places → ListedAt Edges g.edges edge_places → r ≡ names_hold g
