-- The lines of slots: one from its parts, or none; and what is to come of a table from a slot on, which is the line of that slot and what is
-- to come from the next one on. Rests on specs/Lines, specs/Putting and Rows.
use mathlib.Core.Path.{◌≡◌}
use mathlib.Core.Bool.{true, false}
use mathlib.Core.List.{List, [], ◌++◌}
use Prim.Native.Nat.{ℕ, ◌+◌, ◌*◌, ◌<◌, ◌≤◌}
use native.Mathlib.Numerals.{add-one}
use native.Mathlib.Omega.{arith}
use lib.ListN.{length, get_or, drop}
use lib.Seq.{drop-cons, drop-length}
use Rattle.meaning.specs.Layout.{Slot, free, live, is_live, Node, Edge, read_nodes, read_edges}
use Rattle.meaning.specs.Matching.{node_in, edge_in}
use Rattle.meaning.specs.declared.Layout.{Layout}
use Rattle.meaning.specs.declared.Table.{Table}
use Rattle.meaning.specs.declared.Table.TheVariants.{Nodes, Edges}
use Rattle.graph.specs.Graph.{slots_in}
use Rattle.exporting.specs.Lines.{root_text, id_text, end_text, label_text, node_text, edge_text, slot_text, table_text}
use Rattle.exporting.specs.Putting.{Puts, root_size, id_size, end_size, label_size, node_size, edge_size, item_size, item_text, items_from}
use Rattle.exporting.proofs.Rows.{nothing, then}

-- The line of a slot.

pub free-put : {A : Type 0} (item : ℕ → A → List ℕ) (most x : ℕ) (s : Slot A) (before : List ℕ) (at : ℕ) → is_live s ≡ false
    → Puts most (slot_text item x s) before at before at
unfolding slot_text is_live
free-put item most x free before at e = nothing most before at
free-put item most x (live a) before at e = let z : ◌≡◌ {A = ℕ} 0 1 = cc in absurd (omega arith)

module _ {b0 b1 b2 b3 : List ℕ} {at p1 p2 p3 : ℕ} where
  pub node-put : (x mark root : ℕ) (label : List ℕ) (s : Slot Node) → is_live s ≡ true
      → mark ≡ (node_in s).mark
      → root ≡ (node_in s).root
      → label ≡ (node_in s).label
      → Puts id_size (id_text x) b0 at b1 p1
      → Puts root_size (root_text root) b1 p1 b2 p2
      → Puts label_size (label_text label mark) b2 p2 b3 p3
      → Puts node_size (slot_text node_text x s) b0 at b3 p3
  unfolding slot_text node_text is_live node_in
  node-put x mark root label free h e f g a b c = let z : ◌≡◌ {A = ℕ} 0 1 = cc in absurd (omega arith)
  node-put x mark root label (live n) h e f g a b c = rw (← e, ← f, ← g) (then (then a b) c)

  module _ {b4 : List ℕ} {p4 : ℕ} where
    pub edge-put : (x source target mark : ℕ) (label : List ℕ) (s : Slot Edge) → is_live s ≡ true
        → source ≡ (edge_in s).source
        → target ≡ (edge_in s).target
        → mark ≡ (edge_in s).mark
        → label ≡ (edge_in s).label
        → Puts id_size (id_text x) b0 at b1 p1
        → Puts end_size (end_text source) b1 p1 b2 p2
        → Puts end_size (end_text target) b2 p2 b3 p3
        → Puts label_size (label_text label mark) b3 p3 b4 p4
        → Puts edge_size (slot_text edge_text x s) b0 at b4 p4
    unfolding slot_text edge_text is_live edge_in
    edge-put x source target mark label free h i j k g a b c d = let z : ◌≡◌ {A = ℕ} 0 1 = cc in absurd (omega arith)
    edge-put x source target mark label (live n) h i j k g a b c d = rw (← i, ← j, ← k, ← g) (then (then (then a b) c) d)

-- The lines of a table.

module _ {A : Type 0} (item : ℕ → A → List ℕ) (l : List (Slot A)) (i : ℕ) where
  lines_next : i < length l → table_text item i (drop i l) ≡ slot_text item i (get_or l i free) ++ table_text item (i + 1) (drop (i + 1) l)
  unfolding table_text
  lines_next h = rw (add-one i, drop-cons l i free h)

  lines_end : i ≡ length l → table_text item i (drop i l) ≡ []
  unfolding table_text
  lines_end h = rw (h, drop-length l)

module _ (L : Layout) (nodes edges : List ℕ) where
  pub table-next : (t : Table) (x : ℕ) → x < slots_in L nodes edges t
      → items_from L nodes edges t x ≡ item_text L nodes edges t x ++ items_from L nodes edges t (x + 1)
  table-next Nodes x h = lines_next node_text (read_nodes L nodes) x h
  table-next Edges x h = lines_next edge_text (read_edges L edges) x h

  pub table-end : (t : Table) (x : ℕ) → x ≡ slots_in L nodes edges t → items_from L nodes edges t x ≡ []
  table-end Nodes x h = lines_end node_text (read_nodes L nodes) x h
  table-end Edges x h = lines_end edge_text (read_edges L edges) x h

-- one line more has room
pub item_room : (t : Table) (x n : ℕ) → x < n → item_size t * x + item_size t ≤ item_size t * n
item_room Nodes x n h = omega arith
item_room Edges x n h = omega arith
