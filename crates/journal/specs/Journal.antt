-- The counted records of a journal: both tables as slots with them put back, what stands behind the slots, and the journal
-- with them zeroed. Rests on the meaning's Layout, on laws' Pieces and on slots' Slots.
use Rattle.std.specs.Prelude.{ℕ, ◌-◌, ◌*◌, ◌/◌, ◌≡◌, List, ◌++◌, map, reverse, length, drop}
use Rattle.std.proofs.Common.{take-append-drop}
use Rattle.meaning.specs.Basics.{concat}
use Rattle.meaning.specs.Layout.{Tables, undone, node_length, edge_length, record_length, pieces, cut, read_record}
use Rattle.meaning.specs.declared.Layout.{Layout}
use Rattle.laws.specs.Pieces.{concat-pieces}
use Rattle.slots.specs.Slots.{slots_cleared}

-- the bytes behind the last whole slot
abbrev pub behind_slots : ℕ → List ℕ → List ℕ
behind_slots w table = drop (length table / w * w) table

-- with the slots, the whole table
pub whole-table : (w : ℕ) (table : List ℕ) → concat (cut w table) ++ behind_slots w table ≡ table
whole-table w table = rw (concat-pieces w (length table / w) table) (take-append-drop (length table / w * w) table)

module _ (L : Layout) where
  -- both tables as slots
  abbrev pub tables_of : List ℕ → List ℕ → Tables (List ℕ) (List ℕ)
  tables_of nodes edges = record { nodes = cut (node_length L) nodes; edges = cut (edge_length L) edges }

  -- what stands behind the slots of both tables is as it was
  abbrev pub RestKept : List ℕ → List ℕ → List ℕ → List ℕ → Type 0
  RestKept nodes edges nodes' edges' =
      (behind_slots (node_length L) nodes' ≡ behind_slots (node_length L) nodes)
      × (behind_slots (edge_length L) edges' ≡ behind_slots (edge_length L) edges)

  -- the journal's records from number `mark` up to number `used`
  abbrev pub records_from : ℕ → ℕ → List ℕ → List (List ℕ)
  records_from mark used journal = pieces (record_length L) (used - mark) (drop (mark * record_length L) journal)

  -- the tables with these records put back, the last first
  unfoldable pub put_back : ℕ → ℕ → List ℕ → Tables (List ℕ) (List ℕ) → Tables (List ℕ) (List ℕ)
  put_back mark used journal t = undone (reverse (map (read_record L) (records_from mark used journal))) t

  -- the journal with these records zeroed
  abbrev pub cleared_from : ℕ → ℕ → List ℕ → List ℕ
  cleared_from mark used journal = slots_cleared (record_length L) mark used journal
