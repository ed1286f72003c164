-- The two tables of a host, by name: the bytes of a slot, and the test that a slot keeps the layout. Rests on the meaning's Layout.
use Rattle.std.specs.Prelude.{Bool, List, ◌≡◌, ℕ, ◌≤◌, get_or}
use Rattle.meaning.specs.Layout.{Slot, Node, state_place, length_place, node_length, edge_length, keeps_node, keeps_edge}
use Rattle.meaning.specs.declared.Layout.{Layout}
use Rattle.meaning.specs.declared.Table.{Table}
use Rattle.meaning.specs.declared.Table.TheVariants.{Nodes, Edges}

module _ (L : Layout) where
  abbrev pub slot_length : Table → ℕ
  slot_length Nodes = node_length L
  slot_length Edges = edge_length L

  abbrev pub keeps_slot : List (Slot Node) → Table → List ℕ → Bool
  keeps_slot nodes Nodes = keeps_node L
  keeps_slot nodes Edges = keeps_edge L nodes

  -- a slot is live, and its label has room
  pub record Filled (b : List ℕ) : Type 0 where
    pub state : get_or b state_place 0 ≡ 1
    pub size : get_or b length_place 0 ≤ L.atoms
