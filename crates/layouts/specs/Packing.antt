-- Document 01's tables and those of the small core: what packing and unpacking answer, that each gives back what the other was given, that
-- the packed graph is the same graph, and that a program does on the unpacked graph what it did on the small core.
-- Rests on Carried and CarriedRuns.
use Rattle.std.specs.Prelude.{ℕ, ◌+◌, ◌*◌, ◌≡◌, true, get_or, take, drop}
use mathlib.Core.List.{List}
use Rattle.meaning.specs.Layout.{live_at, Edge, small, edge_length, source_place, target_place, read_nodes}

-- the bytes of slot i of a small edge table
abbrev pub slot_bytes : List ℕ → ℕ → List ℕ
slot_bytes edges i = take (edge_length small) (drop (i * edge_length small) edges)

-- slot i of the small tables holds the ends of e in one byte each, and both are live nodes there
pub record NamesEnds (nodes edges : List ℕ) (i : ℕ) (e : Edge) : Type 0 where
  pub source : get_or edges (i * edge_length small + source_place small) 0 ≡ e.source
  pub target : get_or edges (i * edge_length small + target_place small) 0 ≡ e.target
  pub source_live : live_at (read_nodes small nodes) e.source ≡ true
  pub target_live : live_at (read_nodes small nodes) e.target ≡ true
