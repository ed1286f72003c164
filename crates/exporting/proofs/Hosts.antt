-- The text of a host, from its tables' lines, and its room. Rests on Spelled, Rows and the laws' Pieces.
use mathlib.Core.Path.{sym}
use mathlib.Core.List.{List}
use Prim.Native.Nat.{ℕ, ◌*◌, ◌≤◌}
use native.Mathlib.Omega.{arith}
use lib.ListN.{length, length-map}
use Rattle.meaning.specs.Layout.{read_nodes, read_edges}
use Rattle.meaning.specs.declared.Layout.{Layout}
use Rattle.laws.specs.Pieces.{length-pieces, fits-length}
use Rattle.graph.specs.Graph.{Legal}
use Rattle.writing.specs.Words.{letters}
use Rattle.text.specs.Text.{text_of}
use Rattle.exporting.specs.Lines.{node_text, edge_text, table_text, host_text}
use Rattle.exporting.specs.Putting.{Puts, most_text, node_size, edge_size, most_slots, Few}
use Rattle.exporting.proofs.Spelled.{host_spelled}
use Rattle.exporting.proofs.Rows.{within, saying, then}

module _ (L : Layout) (nodes edges : List ℕ) (h : Legal L nodes edges) (f : Few L) where
  pub few-nodes : length (read_nodes L nodes) ≤ most_slots
  few-nodes = rw (length-map, length-pieces) (omega (arith, (fits-length _ _ _ h.nodes_fit).1, f.nodes))

  pub few-edges : length (read_edges L edges) ≤ most_slots
  few-edges = rw (length-map, length-pieces) (omega (arith, (fits-length _ _ _ h.edges_fit).1, f.edges))

  pub host-put : {b0 b1 b2 b3 b4 b5 : List ℕ} {p1 p2 p3 p4 p5 : ℕ} → Puts 1 (letters "[") b0 0 b1 p1
      → Puts (node_size * length (read_nodes L nodes)) (table_text node_text 0 (read_nodes L nodes)) b1 p1 b2 p2
      → Puts 2 (letters "\n|") b2 p2 b3 p3
      → Puts (edge_size * length (read_edges L edges)) (table_text edge_text 0 (read_edges L edges)) b3 p3 b4 p4
      → Puts 3 (letters "\n]\n") b4 p4 b5 p5
      → Puts most_text (text_of L nodes edges) b0 0 b5 p5
  unfolding text_of host_text
  host-put a b c d e =
      saying (host_text (read_nodes L nodes) (read_edges L edges)) _ (sym (host_spelled (read_nodes L nodes) (read_edges L edges)))
      (within _ most_text (omega (arith, few-nodes, few-edges)) (then (then (then (then a b) c) d) e))
