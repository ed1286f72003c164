-- What the search asks of lent tables beforehand, how many slots a table has, and what the bytes of a slot say. Rests on the
-- meaning's Layout and Matching and on slots' Slots.
use Rattle.std.specs.Prelude.{◌≡◌, true, List, ℕ, ◌≤◌, length, get_or, take, drop}
use Rattle.meaning.specs.Numbers.{number}
use Rattle.meaning.specs.Layout.{Slot, Node, Edge, Sized, is_live, mark_place, root_place, length_place, head_length, source_place, target_place, edge_atoms, most_atoms, node_length, edge_length, fits_table, read_atoms, read_nodes, read_edges, keeps_layout}
use Rattle.meaning.specs.Matching.{node_in, edge_in}
use Rattle.meaning.specs.declared.Layout.{Layout}
use Rattle.meaning.specs.declared.Table.{Table}
use Rattle.meaning.specs.declared.Table.TheVariants.{Nodes, Edges}
use Rattle.slots.specs.Slots.{state_of}

module _ (L : Layout) (nodes edges : List ℕ) where
  -- the tables keep a layout whose labels have no more atoms than there is room for
  pub record Legal : Type 0 where
    pub sized : Sized L
    pub few : L.atoms ≤ most_atoms
    pub nodes_fit : fits_table (node_length L) L.nodes nodes ≡ true
    pub edges_fit : fits_table (edge_length L) L.edges edges ≡ true
    pub keeps : keeps_layout L nodes edges ≡ true

  -- how many slots a table has
  abbrev pub slots_in : Table → ℕ
  slots_in Nodes = length (read_nodes L nodes)
  slots_in Edges = length (read_edges L edges)

-- The bytes of a slot say what the slot has.

pub record NodeBytes (L : Layout) (b : List ℕ) (s : Slot Node) : Type 0 where
  pub state : is_live (state_of b) ≡ is_live s
  pub mark : get_or b mark_place 0 ≡ (node_in s).mark
  pub root : get_or b root_place 0 ≡ (node_in s).root
  pub size : get_or b length_place 0 ≤ L.atoms
  pub label : read_atoms (get_or b length_place 0) (drop head_length b) ≡ (node_in s).label

pub record EdgeBytes (L : Layout) (b : List ℕ) (s : Slot Edge) : Type 0 where
  pub state : is_live (state_of b) ≡ is_live s
  pub mark : get_or b mark_place 0 ≡ (edge_in s).mark
  pub source : number (take L.width (drop (source_place L) b)) ≡ (edge_in s).source
  pub target : number (take L.width (drop (target_place L) b)) ≡ (edge_in s).target
  pub size : get_or b length_place 0 ≤ L.atoms
  pub label : read_atoms (get_or b length_place 0) (drop (edge_atoms L) b) ≡ (edge_in s).label
