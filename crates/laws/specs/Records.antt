-- Laws of changes and journal records: undo on slots of any kind, a record written and read back, and undo on bytes as undo
-- on slots. Rests on the meaning's Layout, Calls and Laws/Every, and on Numbers, Pieces, Layout and Hosts.
use Rattle.std.specs.Prelude.{ℕ, zero, suc, ◌-◌, ◌*◌, ◌^◌, ◌<◌, ◌≤◌, ◌≡◌, true, ◌⊎◌, eqb, ltb, length, get_or, drop, replicate}
use Rattle.std.proofs.Math.Path.{refl, ap}
use Rattle.std.proofs.Common.{sym, ◌∙◌, arith, length-append, take_at}
use mathlib.Core.List.{List, [], ◌∷◌, ◌++◌, map, reverse, reverse-cons, reverse-reverse, map-append, append_assoc}
use Rattle.std.proofs.Math.Logic.{inl, inr}
use borrow.Author.Tests.{eqb-true, ltb-true, lt-ltb}
use Rattle.std.proofs.Math.ListN.{take}
use Rattle.std.proofs.lemmas.List.{length-replicate, length-map, length-reverse}
use Rattle.meaning.specs.Basics.{choose, both, clauses, every, zeros, concat, padded}
use Rattle.meaning.specs.Numbers.{bytes}
use Rattle.meaning.specs.Layout.{Slot, Node, Edge, Tables, Host, Change, of_node, of_edge, put, undone, node_length, edge_length, record_length, cut, write_node, write_edge, write_nodes, write_edges, record_bytes, write_record, slot_of, read_record, keeps_record}
use Rattle.meaning.specs.Calls.{counted, tables_undone}
use Rattle.meaning.specs.declared.Layout.{Layout}
use Rattle.meaning.specs.Laws.Tests.{both_true, both_of, either_true, either_left, either-right, zeros_of}
use Rattle.meaning.specs.Laws.Every.{Every}
use Rattle.laws.specs.Numbers.{length-bytes, number-bytes}
use Rattle.laws.specs.Pieces.{map-set, Wide, length-concat, pieces-concat, take_second, drop-both}
use Rattle.laws.specs.Layout.{length-padded}
use Rattle.meaning.specs.Laws.Slots.{OnLive}
use Rattle.laws.specs.Hosts.{LegalNode, LegalEdge, LegalHost, length-write_node, length-write_edge, cut-nodes, cut-edges}

-- Changes of slots of any kind.

module _ {A B C D : Type 0} (f : A → C) (g : B → D) where
  unfoldable pub map_change : Change A B → Change C D
  map_change (of_node i a) = of_node i (f a)
  map_change (of_edge i b) = of_edge i (g b)

  abbrev pub map_tables : Tables A B → Tables C D
  map_tables t = record { nodes = map f t.nodes; edges = map g t.edges }

  pub put_map : (c : Change A B) (t : Tables A B) → put (map_change c) (map_tables t) ≡ map_tables (put c t)
  unfolding put map_change
  put_map (of_node i a) t = ap (λ (l : List C). record { nodes = l; edges = map g t.edges }) (sym (map-set f t.nodes i a))
  put_map (of_edge i b) t = ap (λ (l : List D). record { nodes = map f t.nodes; edges = l }) (sym (map-set g t.edges i b))

  pub undone-map : (cs : List (Change A B)) (t : Tables A B) → undone (map map_change cs) (map_tables t) ≡ map_tables (undone cs t)
  unfolding undone
  undone-map [] t = refl
  undone-map (c ∷ cs) t = ap (undone (map map_change cs)) (put_map c t) ∙ undone-map cs (put c t)

-- A record's bytes.

module _ (L : Layout) (wide : 0 < L.width) (kind i : ℕ) (before : List ℕ) where
  length_kind : length (padded L.width (kind ∷ [])) ≡ L.width
  length_kind = length-padded L.width (kind ∷ []) (omega arith)

  pub slot_of_record_bytes : i < 256 ^ L.width → slot_of L (record_bytes L kind i before) ≡ i
  slot_of_record_bytes h =
      rw (take_second L.width _ (bytes L.width i) (padded (edge_length L) before) length_kind (length-bytes _ _))
      (number-bytes L.width i h)

  pub drop-record_bytes : drop (2 * L.width) (record_bytes L kind i before) ≡ padded (edge_length L) before
  drop-record_bytes =
      drop-both L.width (padded L.width (kind ∷ [])) (bytes L.width i) (padded (edge_length L) before) length_kind
      (length-bytes _ _)

  pub length-record_bytes : length before ≤ edge_length L → length (record_bytes L kind i before) ≡ record_length L
  length-record_bytes h =
      rw (
        length-append (padded L.width (kind ∷ []) ++ bytes L.width i) (padded (edge_length L) before),
        length-append (padded L.width (kind ∷ [])) (bytes L.width i),
        length_kind,
        length-bytes L.width i,
        length-padded (edge_length L) before h,
      )
      (omega arith)

  -- the filling behind the kind is zero
  pub zeros-record_bytes : zeros (take (L.width - 1) (drop 1 (record_bytes L kind i before))) ≡ true
  zeros-record_bytes =
      let n = L.width - 1 in
      ap zeros
      (ap (take n) (append_assoc (replicate n 0) (bytes L.width i) (padded (edge_length L) before))
      ∙ take_at (replicate n 0) (bytes L.width i ++ padded (edge_length L) before) n (length-replicate n 0))
      ∙ zeros_of n

-- Records of legal changes.

unfoldable pub LegalChange : Layout → Change (Slot Node) (Slot Edge) → Type 0
LegalChange L (of_node i s) = (i < 256 ^ L.width) × OnLive (LegalNode L) s
LegalChange L (of_edge i s) = (i < 256 ^ L.width) × OnLive (LegalEdge L) s

module _ (L : Layout) (wide : 0 < L.width) where
  pub length-write_record : (c : Change (Slot Node) (Slot Edge)) → LegalChange L c → length (write_record L c) ≡ record_length L
  unfolding write_record LegalChange
  length-write_record (of_node i s) h = length-record_bytes L wide 1 i (write_node L s) (omega (arith, length-write_node L s h.1))
  length-write_record (of_edge i s) h = length-record_bytes L wide 2 i (write_edge L s) (omega (arith, length-write_edge L s h.1))

  -- a record that was written is read as its slot number and the slot's bytes
  pub read_write_record : (c : Change (Slot Node) (Slot Edge)) → LegalChange L c
      → read_record L (write_record L c) ≡ map_change (write_node L) (write_edge L) c
  unfolding write_record LegalChange read_record map_change choose
  read_write_record (of_node i s) h =
      λ j. of_node (slot_of_record_bytes L wide 1 i (write_node L s) h.0 j) (slot j)
    where
      slot : take (node_length L) (drop (2 * L.width) (record_bytes L 1 i (write_node L s))) ≡ write_node L s
      slot = rw (drop-record_bytes L wide 1 i (write_node L s)) (take_at (write_node L s) _ (node_length L) (length-write_node L s h.1))
  read_write_record (of_edge i s) h =
      λ j. of_edge (slot_of_record_bytes L wide 2 i (write_edge L s) h.0 j) (slot j)
    where
      slot : take (edge_length L) (drop (2 * L.width) (record_bytes L 2 i (write_edge L s))) ≡ write_edge L s
      slot = rw (drop-record_bytes L wide 2 i (write_edge L s)) (take_at (write_edge L s) _ (edge_length L) (length-write_edge L s h.1))

-- Records as undo reads them.

module _ (L : Layout) (b : List ℕ) where
  pub keeps_record-true : (m n : ℕ) → keeps_record L m n b ≡ true
      → ((get_or b 0 0 ≡ 1) × (slot_of L b < m)) ⊎ ((get_or b 0 0 ≡ 2) × (slot_of L b < n))
  unfolding keeps_record clauses
  keeps_record-true m n e = at (either_true _ _ (both_true _ _ e).0)
    where
      at : (both (eqb (get_or b 0 0) 1) (ltb (slot_of L b) m) ≡ true) ⊎ (both (eqb (get_or b 0 0) 2) (ltb (slot_of L b) n) ≡ true)
          → ((get_or b 0 0 ≡ 1) × (slot_of L b < m)) ⊎ ((get_or b 0 0 ≡ 2) × (slot_of L b < n))
      at (inl k) = let t = both_true _ _ k in inl (eqb-true _ _ t.0, ltb-true _ _ t.1)
      at (inr k) = let t = both_true _ _ k in inr (eqb-true _ _ t.0, ltb-true _ _ t.1)

-- the change names a slot of a table of so many nodes and edges
unfoldable pub Within : {A B : Type 0} → ℕ → ℕ → Change A B → Type 0
Within m n (of_node i a) = i < m
Within m n (of_edge i b) = i < n

pub keeps_record_write : (L : Layout) → 0 < L.width → (m n : ℕ) (c : Change (Slot Node) (Slot Edge))
    → LegalChange L c → Within m n c → keeps_record L m n (write_record L c) ≡ true
unfolding keeps_record clauses write_record LegalChange Within
keeps_record_write L wide m n (of_node i s) h k =
    let b = write_node L s in
    both_of _ _
    (either_left _ _ (both_of _ _ refl (rw (slot_of_record_bytes L wide 1 i b h.0) (lt-ltb i m k))))
    (both_of _ _ (zeros-record_bytes L wide 1 i b) refl)
keeps_record_write L wide m n (of_edge i s) h k =
    let b = write_edge L s in
    both_of _ _
    (either-right _ _ (both_of _ _ refl (rw (slot_of_record_bytes L wide 2 i b h.0) (lt-ltb i n k))))
    (both_of _ _ (zeros-record_bytes L wide 2 i b) refl)

-- Undo, record by record: the last counted record is stored back first.

module _ (L : Layout) (nodes edges journal : List ℕ) where
  abbrev slots : Tables (List ℕ) (List ℕ)
  slots = record { nodes = cut (node_length L) nodes; edges = cut (edge_length L) edges }

  -- the first n records, the last of them first
  abbrev earlier : ℕ → List (Change (List ℕ) (List ℕ))
  earlier n = reverse (map (read_record L) (counted L n journal))

-- Undo of written records is undo of slots.

module _ {A : Type 0} (P : A → Type 0) where
  pub Every-append : (l m : List A) → Every P l → Every P m → Every P (l ++ m)
  Every-append [] m h k = k
  Every-append (a ∷ l) m h k = (h.0, Every-append l m h.1 k)

  pub Every-reverse : (l : List A) → Every P l → Every P (reverse l)
  Every-reverse [] h = tt
  Every-reverse (a ∷ l) h = rw (reverse-cons a l) (Every-append (reverse l) (a ∷ []) (Every-reverse l h.1) (h.0, tt))

map-reverse : {A B : Type 0} (f : A → B) (l : List A) → map f (reverse l) ≡ reverse (map f l)
map-reverse f [] = refl
map-reverse f (a ∷ l) = rw (reverse-cons a l, map-append, reverse-cons (f a) (map f l), map-reverse f l)

module _ (L : Layout) (wide : 0 < L.width) where
  Wide-records : (cs : List (Change (Slot Node) (Slot Edge))) → Every (LegalChange L) cs → Wide (record_length L) (map (write_record L) cs)
  Wide-records [] h i k = absurd (omega arith)
  Wide-records (c ∷ cs) h zero k = length-write_record L wide c h.0
  Wide-records (c ∷ cs) h (suc i) k = Wide-records cs h.1 i (omega arith)

  pub keeps-records : (m n : ℕ) (cs : List (Change (Slot Node) (Slot Edge))) → Every (LegalChange L) cs → Every (Within m n) cs
      → every (keeps_record L m n) (map (write_record L) cs) ≡ true
  unfolding every
  keeps-records m n [] h k = refl
  keeps-records m n (c ∷ cs) h k =
      both_of _ _ (keeps_record_write L wide m n c h.0 k.0) (keeps-records m n cs h.1 k.1)

  read_write_records : (cs : List (Change (Slot Node) (Slot Edge))) → Every (LegalChange L) cs
      → map (read_record L) (map (write_record L) cs) ≡ map (map_change (write_node L) (write_edge L)) cs
  read_write_records [] h = refl
  read_write_records (c ∷ cs) h = let p = read_write_record L wide c h.0 in let q = read_write_records cs h.1 in cc

  -- a run's journal, whose last record is first in the list: the records' bytes, the first record first
  module _ (js : List (Change (Slot Node) (Slot Edge))) (legal : Every (LegalChange L) js) where
    abbrev written : List (List ℕ)
    written = map (write_record L) (reverse js)

    abbrev turned : Every (LegalChange L) (reverse js)
    turned = Every-reverse (LegalChange L) js legal

    count-written : length written ≡ length js
    count-written = length-map (reverse js) (write_record L) ∙ length-reverse js

    pub length-written : length (concat written) ≡ length js * record_length L
    length-written =
        length-concat (record_length L) written (Wide-records (reverse js) turned) ∙ ap (λ (n : ℕ). n * record_length L) count-written

    pub counted-written : (n : ℕ) → counted L (length js) (padded n (concat written)) ≡ written
    counted-written n =
        ap (λ (k : ℕ). counted L k (padded n (concat written))) (sym count-written)
        ∙ pieces-concat (record_length L) written _ (Wide-records (reverse js) turned)

    -- read back
    pub records-written : (n : ℕ) → reverse (map (read_record L) (counted L (length js) (padded n (concat written))))
        ≡ map (map_change (write_node L) (write_edge L)) js
    records-written n =
        ap (λ (l : List (List ℕ)). reverse (map (read_record L) l)) (counted-written n)
        ∙ ap reverse (read_write_records (reverse js) turned ∙ map-reverse (map_change (write_node L) (write_edge L)) js)
        ∙ reverse-reverse (map (map_change (write_node L) (write_edge L)) js)

  pub undo-written : (js : List (Change (Slot Node) (Slot Edge))) (n : ℕ) (h : Host) → Every (LegalChange L) js → LegalHost L h
      → tables_undone L (write_nodes L h.nodes) (write_edges L h.edges) (padded n (concat (map (write_record L) (reverse js)))) (length js)
      ≡ map_tables (write_node L) (write_edge L) (undone js h)
  unfolding tables_undone
  undo-written js n h l k =
      (λ i. undone (records-written js l n i) (record { nodes = cut-nodes L h k i; edges = cut-edges L h k i }))
      ∙ undone-map (write_node L) (write_edge L) js h
