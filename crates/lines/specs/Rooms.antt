-- The most bytes of the lines of a listing, and the room that they ask for. Rests on writing's Words.
use Rattle.std.specs.Prelude.{List, ℕ, ◌+◌, ◌*◌, ◌≤◌, length}
use Rattle.meaning.specs.Layout.{read_nodes, read_edges}
use Rattle.meaning.specs.declared.Layout.{Layout}
use Rattle.graph.specs.Graph.{Legal}
use Rattle.writing.specs.Words.{number_size, mark_size, root_size, label_size}

-- Lines, word by word. The numbers written out are the lengths of the words that are always the same.

abbrev pub answer_size : ℕ
answer_size = 6 + number_size + 6 + number_size + 8 + number_size + 1

abbrev pub node_size : ℕ
node_size = 4 + number_size + mark_size + root_size + label_size

abbrev pub edge_size : ℕ
edge_size = 4 + number_size + number_size + number_size + mark_size + label_size

-- room for every listing
abbrev pub listing_room : ℕ
listing_room = 262144

-- the tables keep the layout, and the lines of their slots have room
pub record Ready (L : Layout) (nodes edges : List ℕ) : Type 0 where
  pub legal : Legal L nodes edges
  pub room : answer_size + node_size * length (read_nodes L nodes) + edge_size * length (read_edges L edges) ≤ listing_room
