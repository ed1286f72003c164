-- The two tables of a host, by name: the lines of their live slots. Rests on Lines and Rooms.
use Rattle.std.specs.Prelude.{List, ℕ, get_or, drop}
use Rattle.meaning.specs.Layout.{free, read_nodes, read_edges}
use Rattle.meaning.specs.declared.Layout.{Layout}
use Rattle.meaning.specs.declared.Table.{Table}
use Rattle.meaning.specs.declared.Table.TheVariants.{Nodes, Edges}
use Rattle.lines.specs.Lines.{node_line, edge_line, slot_line, live_lines}
use Rattle.lines.specs.Rooms.{node_size, edge_size}

-- the most bytes of a slot's line
abbrev pub line_size : Table → ℕ
line_size Nodes = node_size
line_size Edges = edge_size

module _ (L : Layout) (nodes edges : List ℕ) where
  -- the line of slot x, where it is live
  abbrev pub slot_text : Table → ℕ → List ℕ
  slot_text Nodes x = slot_line node_line x (get_or (read_nodes L nodes) x free)
  slot_text Edges x = slot_line edge_line x (get_or (read_edges L edges) x free)

  -- the lines from slot x on
  abbrev pub lines_from : Table → ℕ → List ℕ
  lines_from Nodes x = live_lines node_line x (drop x (read_nodes L nodes))
  lines_from Edges x = live_lines edge_line x (drop x (read_edges L edges))
