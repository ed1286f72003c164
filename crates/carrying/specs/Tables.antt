-- The two tables of a host, by name: the label of a slot, whether it is live, whether a table fits in slots of another layout, and what is
-- written there of a slot and of the table. Rests on the meaning's Layout, Matching and Carrying.
use Rattle.std.specs.Prelude.{Bool, not, List, ℕ, get_or, drop}
use Rattle.meaning.specs.Basics.{both, every}
use Rattle.meaning.specs.Layout.{free, is_live, live_at, Node, Edge, read_nodes, read_edges, host_of, write_node, write_edge, write_nodes, write_edges}
use Rattle.meaning.specs.Matching.{node_at, edge_at}
use Rattle.meaning.specs.Carrying.{label_fits, resized}
use Rattle.meaning.specs.declared.Layout.{Layout}
use Rattle.meaning.specs.declared.Table.{Table}
use Rattle.meaning.specs.declared.Table.TheVariants.{Nodes, Edges}

module _ (L : Layout) (nodes edges : List ℕ) where
  -- the label of slot x; none where it is free
  abbrev pub label_in : Table → ℕ → List ℕ
  label_in Nodes x = (node_at (host_of L nodes edges) x).label
  label_in Edges x = (edge_at (host_of L nodes edges) x).label

  -- slot x is there and live
  abbrev pub live_in : Table → ℕ → Bool
  live_in Nodes x = live_at (read_nodes L nodes) x
  live_in Edges x = live_at (read_edges L edges) x

  -- each live label of a table has at most so many atoms
  abbrev pub labels_fit_in : Table → ℕ → Bool
  labels_fit_in Nodes most = every (label_fits most (λ (n : Node). n.label)) (read_nodes L nodes)
  labels_fit_in Edges most = every (label_fits most (λ (e : Edge). e.label)) (read_edges L edges)

  -- each slot from number n on is free
  abbrev pub free_from_in : Table → ℕ → Bool
  free_from_in Nodes n = every (λ s. not (is_live s)) (drop n (read_nodes L nodes))
  free_from_in Edges n = every (λ s. not (is_live s)) (drop n (read_edges L edges))

  abbrev pub fits_in : Table → ℕ → ℕ → Bool
  fits_in t most n = both (labels_fit_in t most) (free_from_in t n)

-- From layout L to layout M.

module _ (L M : Layout) (nodes edges : List ℕ) where
  abbrev pub slot_carried : Table → ℕ → List ℕ
  slot_carried Nodes x = write_node M (get_or (read_nodes L nodes) x free)
  slot_carried Edges x = write_edge M (get_or (read_edges L edges) x free)

  -- to n slots
  abbrev pub table_carried : Table → ℕ → List ℕ
  table_carried Nodes n = write_nodes M (resized n (read_nodes L nodes))
  table_carried Edges n = write_edges M (resized n (read_edges L edges))
