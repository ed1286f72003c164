-- Laws of the walk over a table's slots: what is to come from a slot on is the line of that one, if it is live, and what is to come
-- from the next on. Rests on specs/Lines and specs/Tables.
use mathlib.Core.Path.{◌≡◌, refl}
use mathlib.Core.Bool.{true, false}
use mathlib.Core.List.{List, [], ◌++◌}
use Prim.Native.Nat.{ℕ, ◌+◌, ◌*◌, ◌<◌, ◌≤◌}
use native.Mathlib.Numerals.{add-one}
use native.Mathlib.Omega.{arith}
use lib.ListN.{length, get_or, drop}
use lib.Seq.{drop-cons, drop-length}
use Rattle.meaning.specs.Layout.{Slot, free, live, is_live, Node, Edge, read_nodes, read_edges}
use Rattle.meaning.specs.Matching.{node_in, edge_in}
use Rattle.meaning.specs.declared.Layout.{Layout}
use Rattle.meaning.specs.declared.Table.{Table}
use Rattle.meaning.specs.declared.Table.TheVariants.{Nodes, Edges}
use Rattle.lines.specs.Lines.{node_line, edge_line, slot_line, live_lines}
use Rattle.lines.specs.Tables.{line_size, slot_text, lines_from}
use Rattle.graph.specs.Graph.{slots_in}

-- The line of a slot.

pub slot-free : {A : Type 0} (to_line : ℕ → A → List ℕ) (i : ℕ) (s : Slot A) → is_live s ≡ false → slot_line to_line i s ≡ []
unfolding slot_line is_live
slot-free to_line i free e = refl
slot-free to_line i (live a) e = let z : ◌≡◌ {A = ℕ} 0 1 = cc in absurd (omega arith)

pub slot-node : (i : ℕ) (s : Slot Node) → is_live s ≡ true → slot_line node_line i s ≡ node_line i (node_in s)
unfolding slot_line is_live node_in
slot-node i free e = let z : ◌≡◌ {A = ℕ} 0 1 = cc in absurd (omega arith)
slot-node i (live n) e = refl

pub slot-edge : (i : ℕ) (s : Slot Edge) → is_live s ≡ true → slot_line edge_line i s ≡ edge_line i (edge_in s)
unfolding slot_line is_live edge_in
slot-edge i free e = let z : ◌≡◌ {A = ℕ} 0 1 = cc in absurd (omega arith)
slot-edge i (live n) e = refl

-- The lines of a table.

module _ {A : Type 0} (to_line : ℕ → A → List ℕ) (l : List (Slot A)) (i : ℕ) where
  lines_next : i < length l → live_lines to_line i (drop i l) ≡ slot_line to_line i (get_or l i free) ++ live_lines to_line (i + 1) (drop (i + 1) l)
  unfolding live_lines
  lines_next h = rw (add-one i, drop-cons l i free h)

  lines_end : i ≡ length l → live_lines to_line i (drop i l) ≡ []
  unfolding live_lines
  lines_end h = rw (h, drop-length l)

module _ (L : Layout) (nodes edges : List ℕ) where
  pub table-next : (t : Table) (x : ℕ) → x < slots_in L nodes edges t
      → lines_from L nodes edges t x ≡ slot_text L nodes edges t x ++ lines_from L nodes edges t (x + 1)
  table-next Nodes x h = lines_next node_line (read_nodes L nodes) x h
  table-next Edges x h = lines_next edge_line (read_edges L edges) x h

  pub table-end : (t : Table) (x : ℕ) → x ≡ slots_in L nodes edges t → lines_from L nodes edges t x ≡ []
  table-end Nodes x h = lines_end node_line (read_nodes L nodes) x h
  table-end Edges x h = lines_end edge_line (read_edges L edges) x h

-- one line more has room
pub line-room : (t : Table) (x n : ℕ) → x < n → line_size t * x + line_size t ≤ line_size t * n
line-room Nodes x n h = omega arith
line-room Edges x n h = omega arith
