-- Host tables and journal: slots and records, the bytes that they are laid out in, and the test that a host keeps the layout.
-- Nothing outside this file knows the size of a slot in bytes. Rests on Basics, Numbers and, for marks, Tags, and on the code's
-- struct Layout and enum Core. Where a definition goes by a layout L, a comment that begins `base:` gives the places of document 01's layout.
use Rattle.std.specs.Prelude.{Bool, true, false, List, [], ◌∷◌, ◌++◌, map, ◌≡◌, ℕ, zero, suc, ◌+◌, ◌-◌, ◌*◌, ◌/◌, ◌%◌, ◌≤◌, length, get_or, set, take, drop, eqb, leb, ltb}
use Rattle.meaning.specs.Basics.{choose, both, either, clauses, every, zeros, concat, padded}
use Rattle.meaning.specs.Numbers.{number, bytes}
use Rattle.meaning.specs.Tags.{blue_mark, grey_mark, dashed_mark}
use Rattle.meaning.specs.declared.Layout.{Layout}
use Rattle.meaning.specs.declared.Core.{Core}
use Rattle.meaning.specs.declared.Core.TheVariants.{Wide, Small}

-- Slots. An atom is its 32-bit word, a label a list of atoms.

pub data Slot (A : Type 0) : Type 0 where
  free : Slot A
  live : A → Slot A

pub record Node : Type 0 where
  pub mark : ℕ
  pub root : ℕ
  pub label : List ℕ

pub record Edge : Type 0 where
  pub mark : ℕ
  pub source : ℕ
  pub target : ℕ
  pub label : List ℕ

-- a node table and an edge table, of slots of any kind
pub record Tables (A B : Type 0) : Type 0 where
  pub nodes : List A
  pub edges : List B

abbrev pub Host : Type 0
Host = Tables (Slot Node) (Slot Edge)

unfoldable pub is_live : {A : Type 0} → Slot A → Bool
is_live free = false
is_live (live a) = true

-- slot i of the table is there and live
abbrev pub live_at : {A : Type 0} → List (Slot A) → ℕ → Bool
live_at slots i = is_live (get_or slots i free)

-- A slot of one of the tables, and what it holds: a change to make, or a journal record of what stood there before.

pub data Change (A B : Type 0) : Type 0 where
  of_node : ℕ → A → Change A B
  of_edge : ℕ → B → Change A B

unfoldable pub put : {A B : Type 0} → Change A B → Tables A B → Tables A B
put (of_node i a) t = record { nodes = set t.nodes i a; edges = t.edges }
put (of_edge i b) t = record { nodes = t.nodes; edges = set t.edges i b }

-- the tables with all records put back; the list has the last record first
unfoldable pub undone : {A B : Type 0} → List (Change A B) → Tables A B → Tables A B
undone [] t = t
undone (c ∷ cs) t = undone cs (put c t)

-- Marks: those up to grey for nodes; those up to blue, and dashed, for edges.

unfoldable pub is_node_mark : ℕ → Bool
is_node_mark m = leb m grey_mark

unfoldable pub is_edge_mark : ℕ → Bool
is_edge_mark m = either (leb m blue_mark) (eqb m dashed_mark)

-- Places of a slot's bytes. Behind the four of its head an edge has its ends, then both have the atoms.

abbrev pub state_place : ℕ
state_place = 0

abbrev pub mark_place : ℕ
mark_place = 1

-- a node's root flag; zero in an edge
abbrev pub root_place : ℕ
root_place = 2

-- the label's length
abbrev pub length_place : ℕ
length_place = 3

abbrev pub head_length : ℕ
head_length = 4

-- a record's kind
abbrev pub kind_place : ℕ
kind_place = 0

-- an atom's bytes
abbrev pub atom_length : ℕ
atom_length = 4

-- Sizes in bytes.

-- the most atoms of a label that code makes room for, at any layout
abbrev pub most_atoms : ℕ
most_atoms = 8

-- document 01's layout: eight atoms, two bytes to a slot number
abbrev pub base : Layout
base = record { atoms = 8; width = 2; node = 36; edge = 40; change = 44; nodes = 512; edges = 1024; records = 1024 }

-- the layout of old tables, which are carried to base and back: four atoms
abbrev pub four : Layout
four = record { atoms = 4; width = 2; node = 20; edge = 24; change = 28; nodes = 512; edges = 1024; records = 1024 }

-- the layout of the small core: one atom, one byte to a slot number
abbrev pub small : Layout
small = record { atoms = 1; width = 1; node = 8; edge = 10; change = 12; nodes = 128; edges = 255; records = 255 }

-- the layout of a core
abbrev pub layout_of : Core → Layout
layout_of Wide = base
layout_of Small = small

module _ (L : Layout) where
  -- where an edge's source, its target and its atoms begin; base: 4, 6, 8
  abbrev pub source_place : ℕ
  source_place = head_length

  abbrev pub target_place : ℕ
  target_place = head_length + L.width

  abbrev pub edge_atoms : ℕ
  edge_atoms = head_length + 2 * L.width

  -- state, mark, root, label length, the atoms; base: 36
  abbrev pub node_length : ℕ
  node_length = head_length + atom_length * L.atoms

  -- state, mark, zero, label length, source, target, the atoms; base: 40
  abbrev pub edge_length : ℕ
  edge_length = edge_atoms + atom_length * L.atoms

  -- kind (filled with zeros to the width), slot number, the bytes before; base: 44
  abbrev pub record_length : ℕ
  record_length = 2 * L.width + edge_length

-- the layout's slot lengths are those of its atoms and width, and small enough to count with
pub record Sized (L : Layout) : Type 0 where
  pub node : L.node ≡ node_length L
  pub edge : L.edge ≡ edge_length L
  pub change : L.change ≡ record_length L
  pub atoms : L.atoms ≤ 63
  pub narrow : 1 ≤ L.width
  pub wide : L.width ≤ 2

-- a table's length is a multiple of its slot's, and it has at most so many slots
unfoldable pub fits_table : ℕ → ℕ → List ℕ → Bool
fits_table slot most bs = both (eqb (length bs % slot) 0) (leb (length bs / slot) most)

-- Bytes to slots: reading is total, whatever the bytes.

-- the first n pieces of w bytes
unfoldable pub pieces : ℕ → ℕ → List ℕ → List (List ℕ)
pieces w zero bs = []
pieces w (suc n) bs = take w bs ∷ pieces w n (drop w bs)

-- a table's slots
abbrev pub cut : ℕ → List ℕ → List (List ℕ)
cut w bs = pieces w (length bs / w) bs

-- n atoms from the front
abbrev pub read_atoms : ℕ → List ℕ → List ℕ
read_atoms n bs = map number (pieces atom_length n bs)

-- base: byte 0 state, 1 mark, 2 root, 3 label length, 4 to 35 eight atoms of four bytes
unfoldable pub read_node : List ℕ → Slot Node
read_node b =
    choose (eqb (get_or b state_place 0) 0) free
    (live (record { mark = get_or b mark_place 0; root = get_or b root_place 0; label = read_atoms (get_or b length_place 0) (drop head_length b) }))

module _ (L : Layout) where
  -- base: byte 0 state, 1 mark, 2 zero, 3 label length, 4 and 5 source, 6 and 7 target, 8 to 39 eight atoms of four bytes
  unfoldable pub read_edge : List ℕ → Slot Edge
  read_edge b =
      choose (eqb (get_or b state_place 0) 0) free
      (live (record {
        mark = get_or b mark_place 0;
        source = number (take L.width (drop (source_place L) b));
        target = number (take L.width (drop (target_place L) b));
        label = read_atoms (get_or b length_place 0) (drop (edge_atoms L) b);
      }))

  -- base: slots of 36 bytes; of 40
  abbrev pub read_nodes : List ℕ → List (Slot Node)
  read_nodes bs = map read_node (cut (node_length L) bs)

  abbrev pub read_edges : List ℕ → List (Slot Edge)
  read_edges bs = map read_edge (cut (edge_length L) bs)

  -- the host that two tables hold
  abbrev pub host_of : List ℕ → List ℕ → Host
  host_of nodes edges = record { nodes = read_nodes nodes; edges = read_edges edges }

-- Slots to bytes: what is not used is zero, and a free slot is all zero.

abbrev pub atom_bytes : List ℕ → List ℕ
atom_bytes l = concat (map (bytes atom_length) l)

-- state, mark, root, label length, the atoms that there are
unfoldable pub node_bytes : Slot Node → List ℕ
node_bytes free = []
node_bytes (live n) = 1 ∷ n.mark ∷ n.root ∷ length n.label ∷ atom_bytes n.label

module _ (L : Layout) where
  -- state, mark, zero, label length, source, target, the atoms that there are; base: two bytes to source and to target
  unfoldable pub edge_bytes : Slot Edge → List ℕ
  edge_bytes free = []
  edge_bytes (live e) =
      1 ∷ e.mark ∷ 0 ∷ length e.label ∷ bytes L.width e.source ++ bytes L.width e.target ++ atom_bytes e.label

  -- base: filled with zeros to 36 bytes; to 40
  abbrev pub write_node : Slot Node → List ℕ
  write_node s = padded (node_length L) (node_bytes s)

  abbrev pub write_edge : Slot Edge → List ℕ
  write_edge s = padded (edge_length L) (edge_bytes s)

  abbrev pub write_nodes : List (Slot Node) → List ℕ
  write_nodes l = concat (map write_node l)

  abbrev pub write_edges : List (Slot Edge) → List ℕ
  write_edges l = concat (map write_edge l)

  -- kind 1 is a node, 2 an edge; a node's bytes are followed by zeros
  -- base: byte 0 kind, 1 zero, 2 and 3 slot number, 4 to 43 the bytes before; of a node 4 to 39, with zeros in 40 to 43
  abbrev pub record_bytes : ℕ → ℕ → List ℕ → List ℕ
  record_bytes kind i before = padded L.width (kind ∷ []) ++ bytes L.width i ++ padded (edge_length L) before

  unfoldable pub write_record : Change (Slot Node) (Slot Edge) → List ℕ
  write_record (of_node i s) = record_bytes 1 i (write_node s)
  write_record (of_edge i s) = record_bytes 2 i (write_edge s)

-- Reading a record back. Undo looks at kind, filling and slot number alone, and takes the bytes before as they are.

module _ (L : Layout) where
  -- the slot number; base: bytes 2 and 3
  abbrev pub slot_of : List ℕ → ℕ
  slot_of b = number (take L.width (drop L.width b))

  -- base: byte 0 kind; the bytes before from byte 4 on, 36 of a node, 40 of an edge
  unfoldable pub read_record : List ℕ → Change (List ℕ) (List ℕ)
  read_record b =
      choose (eqb (get_or b kind_place 0) 1) (of_node (slot_of b) (take (node_length L) (drop (2 * L.width) b)))
      (of_edge (slot_of b) (take (edge_length L) (drop (2 * L.width) b)))

  -- the record names a slot of a table of so many nodes and edges, and the filling is zero
  -- base: byte 0 is 1 and bytes 2 and 3 name a node slot, or 2 and an edge slot; byte 1 is 0
  unfoldable pub keeps_record : ℕ → ℕ → List ℕ → Bool
  keeps_record node_slots edge_slots b =
      clauses
      (either (both (eqb (get_or b kind_place 0) 1) (ltb (slot_of b) node_slots)) (both (eqb (get_or b kind_place 0) 2) (ltb (slot_of b) edge_slots))
      ∷ zeros (take (L.width - 1) (drop 1 b))
      ∷ [])

-- The test that a host keeps the layout (answer 15), clause by clause.

module _ (L : Layout) where
  -- base: byte 0 is 0 and all are, or it is 1; byte 1 is 0 to 4, 2 is 0 or 1, 3 is 0 to 8; zeros from byte 4 + 4 * label length
  unfoldable pub keeps_node : List ℕ → Bool
  keeps_node b =
      choose (eqb (get_or b state_place 0) 0) (zeros b)
      (clauses
      (eqb (get_or b state_place 0) 1
      ∷ is_node_mark (get_or b mark_place 0)
      ∷ leb (get_or b root_place 0) 1
      ∷ leb (get_or b length_place 0) L.atoms
      ∷ zeros (drop (head_length + atom_length * get_or b length_place 0) b)
      ∷ []))

  -- base: byte 0 is 0 and all are, or it is 1; byte 1 is 0 to 3 or 5, 2 is 0, 3 is 0 to 8; 4 and 5, and 6 and 7, are live node
  -- slots; zeros from byte 8 + 4 * label length
  unfoldable pub keeps_edge : List (Slot Node) → List ℕ → Bool
  keeps_edge nodes b =
      choose (eqb (get_or b state_place 0) 0) (zeros b)
      (clauses
      (eqb (get_or b state_place 0) 1
      ∷ is_edge_mark (get_or b mark_place 0)
      ∷ eqb (get_or b root_place 0) 0
      ∷ leb (get_or b length_place 0) L.atoms
      ∷ live_at nodes (number (take L.width (drop (source_place L) b)))
      ∷ live_at nodes (number (take L.width (drop (target_place L) b)))
      ∷ zeros (drop (edge_atoms L + atom_length * get_or b length_place 0) b)
      ∷ []))

  -- base: each 36 bytes of the node table, each 40 of the edge table
  unfoldable pub keeps_layout : List ℕ → List ℕ → Bool
  keeps_layout nodes edges =
      both (every keeps_node (cut (node_length L) nodes)) (every (keeps_edge (read_nodes L nodes)) (cut (edge_length L) edges))
