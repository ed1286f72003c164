-- The two tables that an import writes, by name: what a slot holds of an item, the bytes of a slot, and the table; and items that
-- are listed at places and can be held. Rests on the meaning's Layout, on the text's Text, on items' Items and on Names.
use Rattle.std.specs.Prelude.{◌≡◌, true, List, map, ℕ, get_or}
use Rattle.meaning.specs.Basics.{every, concat}
use Rattle.meaning.specs.Layout.{Slot, free, live, Node, Edge, write_node, write_edge}
use Rattle.meaning.specs.declared.Layout.{Layout}
use Rattle.meaning.specs.declared.Table.{Table}
use Rattle.meaning.specs.declared.Table.TheVariants.{Nodes, Edges}
use Rattle.laws.specs.Pieces.{stored}
use Rattle.host.specs.Tables.{slot_length}
use Rattle.text.specs.Text.{to_node, to_edge, filled}
use Rattle.items.specs.Items.{ItemOf, fits_in, At}
use Rattle.importing.specs.Names.{names_at, ListedAt}

-- what a live slot of a table holds
abbrev pub HeldIn : Table → Type 0
HeldIn Nodes = Node
HeldIn Edges = Edge

-- an item as it is held, ends by the numbers of their names
abbrev pub held_of : List (List ℕ) → (t : Table) → ItemOf t → HeldIn t
held_of names Nodes = to_node
held_of names Edges = to_edge names

module _ (L : Layout) where
  abbrev pub write_slot : (t : Table) → Slot (HeldIn t) → List ℕ
  write_slot Nodes = write_node L
  write_slot Edges = write_edge L

  module _ (names : List (List ℕ)) (t : Table) (l : List (ItemOf t)) where
    -- the bytes of slot x: the item of its number, or none
    abbrev pub slot_of : ℕ → List ℕ
    slot_of x = write_slot t (get_or (map live (map (held_of names t) l)) x free)

    -- a table of n slots
    abbrev pub table_of : ℕ → List ℕ
    table_of n = concat (map (write_slot t) (filled n (map (held_of names t) l)))

  -- Items that can be held: the one at a place, and those that are listed at places.

  pub record Item (bs : List ℕ) (t : Table) (p : ℕ) : Type 0 where
    pub item : ItemOf t
    pub at : At bs t p item
    pub fits : fits_in t L.atoms item ≡ true

  pub record Items (bs : List ℕ) (t : Table) (ps : List ℕ) : Type 0 where
    pub items : List (ItemOf t)
    pub listed : ListedAt bs t items ps
    pub fit : every (fits_in t L.atoms) items ≡ true

  -- What is written of them, whichever they are found to be.

  module _ (bs : List ℕ) (node_places : List ℕ) (t : Table) where
    abbrev pub StoresItem : ℕ → ℕ → List ℕ → List ℕ → Type 0
    StoresItem p x out out' =
        (w : Item bs t p) → out' ≡ stored (slot_length L t) x (write_slot t (live (held_of (names_at bs node_places) t w.item))) out

    abbrev pub StoresSlot : List ℕ → ℕ → List ℕ → List ℕ → Type 0
    StoresSlot ps x out out' =
        (w : Items bs t ps) → out' ≡ stored (slot_length L t) x (slot_of (names_at bs node_places) t w.items x) out

    abbrev pub StoresTable : List ℕ → ℕ → List ℕ → Type 0
    StoresTable ps n out' = (w : Items bs t ps) → out' ≡ table_of (names_at bs node_places) t w.items n
