-- Laws of the running state: one slot stored with its record is one change of the ledger. Rests on Running.
use Rattle.std.specs.Prelude.{◌≡◌, ℕ, zero, suc, ◌+◌, ◌-◌, ◌*◌, ◌/◌, ◌<◌, ◌≤◌, get_or, set, take, drop, replicate}
use Rattle.std.proofs.Math.Path.{refl, ap}
use Rattle.std.proofs.Common.{sym, subst, ◌∙◌, suc-mul, add-one, length-append, take_at, drop_at, drop-drop}
use mathlib.Core.List.{List, [], ◌∷◌, ◌++◌, map, reverse, reverse-cons, reverse-append, map-append, append-nil}
use native.Mathlib.Omega.{arith}
use Rattle.std.proofs.Math.ListN.{length}
use Rattle.std.proofs.lemmas.List.{length-map, length-reverse, set_at}
use Rattle.meaning.specs.Basics.{concat, padded}
use Rattle.meaning.specs.Layout.{Slot, Node, Edge, free, Change, of_node, of_edge, put, Sized, node_length, edge_length, record_length, pieces, cut, read_node, read_edge, read_nodes, read_edges, write_node, write_edge, write_nodes, write_edges, node_bytes, edge_bytes, record_bytes, write_record}
use Rattle.meaning.specs.Applying.{standing, store}
use Rattle.meaning.specs.Laws.Every.{Every}
use Rattle.laws.specs.Pieces.{get_or-map_in, map-set, stored, length-stored, pieces-suc, pieces-stored, length-pieces, cut_write, read-stored, concat_append, concat-set, length-read, Wide, fits-length, fits-same, slot-within}
use Rattle.meaning.specs.Laws.Slots.{OnLive, OnLive-set}
use Rattle.laws.specs.Hosts.{LegalNode, LegalEdge, length-write_node, length-write_edge, read_write_node, read_write_edge}
use Rattle.laws.specs.Records.{map_change, LegalChange, Within, length-write_record, read_write_record, length-written}
use Rattle.meaning.specs.declared.Layout.{Layout}
use Rattle.ledger.specs.Running.{change_of, journal_of, ledger_of, Held, Leads}

-- A table of legal slots, as they are written.

module _ {A : Type 0} (w : ℕ) (read : List ℕ → Slot A) (write : Slot A → List ℕ) (Good : Slot A → Type 0)
    (wide : (s : Slot A) → Good s → length (write s) ≡ w)
    (back : (s : Slot A) → Good s → read (write s) ≡ s)
    (bs : List ℕ)
    (good : (i : ℕ) → Good (get_or (map read (cut w bs)) i free))
    (written : concat (map write (map read (cut w bs))) ≡ bs)
  where
    abbrev table : List (Slot A)
    table = map read (cut w bs)

    wide-table : (i : ℕ) → i < length table → length (write (get_or table i free)) ≡ w
    wide-table i h = wide (get_or table i free) (good i)

    -- the bytes of a slot are those that are written of it
    slot-written : 0 < w → (x : ℕ) → x < length bs / w → get_or (cut w bs) x [] ≡ write (get_or table x free)
    slot-written p x h =
        ap (λ (l : List ℕ). get_or (cut w l) x []) (sym written)
        ∙ ap (λ (l : List (List ℕ)). get_or l x []) (cut_write w write table free wide-table p)
        ∙ get_or-map_in write table x free [] (rw (length-read w read bs) h)

    module _ (x : ℕ) (s : Slot A) (h : x < length bs / w) (k : Good s) where
      length-kept : length (stored w x (write s) bs) ≡ length bs
      length-kept = length-stored w x (write s) bs (slot-within w x (length bs) h) (wide s k)

      slot_read : map read (cut w (stored w x (write s) bs)) ≡ set table x s
      slot_read = read-stored w read x (write s) bs h (wide s k) ∙ ap (set table x) (back s k)

      slot_kept : concat (map write (map read (cut w (stored w x (write s) bs)))) ≡ stored w x (write s) bs
      slot_kept =
          ap (λ (t : List (Slot A)). concat (map write t)) slot_read
          ∙ ap concat (map-set write table x s)
          ∙ concat-set w (map write table) x (write s) wide_rows (rw (length-map table write, length-read w read bs) h)
          ∙ ap (stored w x (write s)) written
        where
          wide_rows : Wide w (map write table)
          wide_rows i j =
              let n : i < length table = rw (length-map table write) at j in
              rw (get_or-map_in write table i free [] n) (wide-table i n)

-- The journal.

concat-one : (l : List ℕ) → concat (l ∷ []) ≡ l
unfolding concat
concat-one l = append-nil l

drop-zeros : (m n : ℕ) → drop m (replicate {A = ℕ} n 0) ≡ replicate (n - m) 0
drop-zeros zero n = let e : n ≡ n - 0 = omega arith in ap (λ (k : ℕ). replicate k 0) e
drop-zeros (suc m) zero = let e : 0 ≡ 0 - suc m = omega arith in ap (λ (k : ℕ). replicate k 0) e
drop-zeros (suc m) (suc n) = let e : n - m ≡ suc n - suc m = omega arith in drop-zeros m n ∙ ap (λ (k : ℕ). replicate k 0) e

-- as many changes as records are used
pub length-journal_of : (L : Layout) (journal : List ℕ) (used : ℕ) → length (journal_of L journal used) ≡ used
unfolding journal_of
length-journal_of L journal used =
    length-reverse (map (change_of L) (pieces (record_length L) used journal))
    ∙ length-map (pieces (record_length L) used journal) (change_of L)
    ∙ length-pieces (record_length L) used journal

module _ (L : Layout) (wide : 0 < L.width) where
  -- a record that was written is read as its change
  pub change_of_write : (c : Change (Slot Node) (Slot Edge)) → LegalChange L c → change_of L (write_record L c) ≡ c
  unfolding change_of map_change LegalChange
  change_of_write (of_node i s) h =
      ap (map_change read_node (read_edge L)) (read_write_record L wide (of_node i s) h) ∙ ap (of_node i) (read_write_node L s h.1)
  change_of_write (of_edge i s) h =
      ap (map_change read_node (read_edge L)) (read_write_record L wide (of_edge i s) h) ∙ ap (of_edge i) (read_write_edge L s h.1)

  module _ (journal : List ℕ) (used : ℕ) (c : Change (Slot Node) (Slot Edge)) (legal : LegalChange L c)
      (room : used < length journal / record_length L)
    where
      abbrev after : List ℕ
      after = stored (record_length L) used (write_record L c) journal

      size : length (write_record L c) ≡ record_length L
      size = length-write_record L wide c legal

      inside : suc used * record_length L ≤ length journal
      inside = omega (arith, suc-mul used (record_length L), slot-within (record_length L) used (length journal) room)

      length-after : length after ≡ length journal
      length-after = length-stored (record_length L) used (write_record L c) journal (slot-within (record_length L) used (length journal) room) size

      records-after : pieces (record_length L) (suc used) after ≡ pieces (record_length L) used journal ++ (write_record L c ∷ [])
      records-after =
          pieces-stored (record_length L) (suc used) used (write_record L c) journal (omega arith) inside size
          ∙ ap (λ (l : List (List ℕ)). set l used (write_record L c)) (pieces-suc (record_length L) used journal)
          ∙ set_at (pieces (record_length L) used journal) _ [] (write_record L c) used (length-pieces (record_length L) used journal)

      journal-after : journal_of L after (used + 1) ≡ c ∷ journal_of L journal used
      unfolding journal_of
      journal-after =
          rw (add-one used, records-after, map-append, reverse-append)
          (ap (λ (a : Change (Slot Node) (Slot Edge)). a ∷ reverse (map (change_of L) (pieces (record_length L) used journal))) (change_of_write c legal))

      written_after : Every (LegalChange L) (journal_of L journal used)
          → padded (length journal) (concat (map (write_record L) (reverse (journal_of L journal used)))) ≡ journal
          → padded (length after) (concat (map (write_record L) (reverse (journal_of L after (used + 1))))) ≡ after
      written_after legals w =
          rw (journal-after, length-after, reverse-cons c (journal_of L journal used), map-append)
          (ap (padded (length journal)) (concat_append before (write_record L c ∷ []) ∙ ap (λ (l : List ℕ). concat before ++ l) (concat-one (write_record L c)))
          ∙ ap (λ (n : ℕ). concat before ++ write_record L c ++ replicate n 0) rest
          ∙ sym (λ i. front i ++ write_record L c ++ behind i))
        where
          before : List (List ℕ)
          before = map (write_record L) (reverse (journal_of L journal used))

          length_before : length (concat before) ≡ used * record_length L
          length_before =
              length-written L wide (journal_of L journal used) legals
              ∙ ap (λ (n : ℕ). n * record_length L) (length-journal_of L journal used)

          front : take (used * record_length L) journal ≡ concat before
          front = ap (take (used * record_length L)) (sym w) ∙ take_at (concat before) _ (used * record_length L) length_before

          left : length journal - length (concat before) - record_length L ≡ length journal - (used * record_length L + record_length L)
          left = omega (arith, length_before)

          behind : drop (used * record_length L + record_length L) journal ≡ replicate (length journal - (used * record_length L + record_length L)) 0
          behind =
              ap (drop (used * record_length L + record_length L)) (sym w)
              ∙ sym (drop-drop (record_length L) (used * record_length L) _)
              ∙ ap (drop (record_length L)) (drop_at (concat before) _ (used * record_length L) length_before)
              ∙ drop-zeros (record_length L) (length journal - length (concat before))
              ∙ ap (λ (n : ℕ). replicate n 0) left

          rest : length journal - length (concat before ++ write_record L c) ≡ length journal - (used * record_length L + record_length L)
          rest = rw (length-append (concat before) (write_record L c), length_before, size)

-- One change with its record.

module _ (L : Layout) (nodes edges journal : List ℕ) (used : ℕ) (h : Held L nodes edges journal used)
    (room : used < length journal / record_length L)
  where
    narrow : 0 < L.width
    narrow = h.sized.narrow

    -- the journal once the record c is written, over tables of the same lengths
    module _ (c : Change (Slot Node) (Slot Edge)) (legal : LegalChange L c)
        (within : Within (length nodes / node_length L) (length edges / edge_length L) c)
        (nodes' edges' : List ℕ)
        (nodes_long : length nodes' ≡ length nodes)
        (edges_long : length edges' ≡ length edges)
        (nodes_written : write_nodes L (read_nodes L nodes') ≡ nodes')
        (edges_written : write_edges L (read_edges L edges') ≡ edges')
        (nodes_legal : (i : ℕ) → OnLive (LegalNode L) (get_or (read_nodes L nodes') i free))
        (edges_legal : (i : ℕ) → OnLive (LegalEdge L) (get_or (read_edges L edges') i free))
      where
        lasting : (cs : List (Change (Slot Node) (Slot Edge))) → Every (Within (length nodes / node_length L) (length edges / edge_length L)) cs → Every (Within (length nodes' / node_length L) (length edges' / edge_length L)) cs
        lasting cs =
            let P : ℕ → ℕ → Type 0 = λ n e. Every (Within (n / node_length L) (e / edge_length L)) cs in
            λ k. subst (λ (n : ℕ). P n (length edges')) (sym nodes_long) (subst (λ (e : ℕ). P (length nodes) e) (sym edges_long) k)

        held_after : Held L nodes' edges' (after L narrow journal used c legal room) (used + 1)
        held_after =
            record {
              sized = h.sized;
              few = h.few;
              node_numbers = h.node_numbers;
              edge_numbers = h.edge_numbers;
              nodes_fit = fits-same (node_length L) L.nodes nodes nodes' nodes_long h.nodes_fit;
              edges_fit = fits-same (edge_length L) L.edges edges edges' edges_long h.edges_fit;
              journal_fits = fits-same (record_length L) L.records journal _ (length-after L narrow journal used c legal room) h.journal_fits;
              room = rw (length-after L narrow journal used c legal room) (omega arith);
              nodes_written = nodes_written;
              edges_written = edges_written;
              written = written_after L narrow journal used c legal room h.records_legal h.written;
              nodes_legal = nodes_legal;
              edges_legal = edges_legal;
              records_legal = rw (journal-after L narrow journal used c legal room) (legal, h.records_legal);
              records_within = rw (journal-after L narrow journal used c legal room) (lasting (c ∷ journal_of L journal used) (within, h.records_within));
            }

    -- a node slot
    module _ (x : ℕ) (k : x < length nodes / node_length L) where
      node-was : Change (Slot Node) (Slot Edge)
      node-was = of_node x (get_or (read_nodes L nodes) x free)

      node-legal : LegalChange L node-was
      unfolding LegalChange node-was
      node-legal =
          let t = fits-length (node_length L) L.nodes nodes h.nodes_fit in
          let n = h.node_numbers in
          (omega (arith, t.1), h.nodes_legal x)

      node-within : Within (length nodes / node_length L) (length edges / edge_length L) node-was
      unfolding Within node-was
      node-within = k

      node-bytes : record_bytes L 1 x (get_or (cut (node_length L) nodes) x []) ≡ write_record L node-was
      unfolding write_record node-was
      node-bytes =
          ap (record_bytes L 1 x)
          (slot-written (node_length L) read_node (write_node L) (OnLive (LegalNode L)) (length-write_node L) (read_write_node L) nodes h.nodes_legal
          h.nodes_written (omega arith) x k)

      pub node-step : (s : Slot Node) → OnLive (LegalNode L) s
          → Leads L (store (of_node x s) (ledger_of L nodes edges journal used)) (stored (node_length L) x (write_node L s) nodes) edges
          (stored (record_length L) used (record_bytes L 1 x (get_or (cut (node_length L) nodes) x [])) journal) (used + 1)
      unfolding store put standing node-was
      node-step s good =
          rw node-bytes
          (record {
            ledger = λ i. record { host = record { nodes = reads i; edges = read_edges L edges }; journal = journal-after L narrow journal used node-was node-legal room i };
            held =
                held_after node-was node-legal node-within (stored (node_length L) x (write_node L s) nodes) edges longs refl
                (slot_kept (node_length L) read_node (write_node L) (OnLive (LegalNode L)) (length-write_node L) (read_write_node L) nodes h.nodes_legal
                h.nodes_written x s k good)
                h.edges_written (rw reads (OnLive-set (LegalNode L) (read_nodes L nodes) x s good h.nodes_legal)) h.edges_legal;
          })
        where
          longs : length (stored (node_length L) x (write_node L s) nodes) ≡ length nodes
          longs =
              length-kept (node_length L) read_node (write_node L) (OnLive (LegalNode L)) (length-write_node L) (read_write_node L) nodes h.nodes_legal
              h.nodes_written x s k good

          reads : read_nodes L (stored (node_length L) x (write_node L s) nodes) ≡ set (read_nodes L nodes) x s
          reads =
              slot_read (node_length L) read_node (write_node L) (OnLive (LegalNode L)) (length-write_node L) (read_write_node L) nodes h.nodes_legal
              h.nodes_written x s k good

    -- an edge slot
    module _ (x : ℕ) (k : x < length edges / edge_length L) where
      edge-was : Change (Slot Node) (Slot Edge)
      edge-was = of_edge x (get_or (read_edges L edges) x free)

      edge-legal : LegalChange L edge-was
      unfolding LegalChange edge-was
      edge-legal =
          let t = fits-length (edge_length L) L.edges edges h.edges_fit in
          let n = h.edge_numbers in
          (omega (arith, t.1), h.edges_legal x)

      edge-within : Within (length nodes / node_length L) (length edges / edge_length L) edge-was
      unfolding Within edge-was
      edge-within = k

      edge-bytes : record_bytes L 2 x (get_or (cut (edge_length L) edges) x []) ≡ write_record L edge-was
      unfolding write_record edge-was
      edge-bytes =
          ap (record_bytes L 2 x)
          (slot-written (edge_length L) (read_edge L) (write_edge L) (OnLive (LegalEdge L)) (length-write_edge L) (read_write_edge L) edges h.edges_legal
          h.edges_written (omega arith) x k)

      pub edge-step : (s : Slot Edge) → OnLive (LegalEdge L) s
          → Leads L (store (of_edge x s) (ledger_of L nodes edges journal used)) nodes (stored (edge_length L) x (write_edge L s) edges)
          (stored (record_length L) used (record_bytes L 2 x (get_or (cut (edge_length L) edges) x [])) journal) (used + 1)
      unfolding store put standing edge-was
      edge-step s good =
          rw edge-bytes
          (record {
            ledger = λ i. record { host = record { nodes = read_nodes L nodes; edges = reads i }; journal = journal-after L narrow journal used edge-was edge-legal room i };
            held =
                held_after edge-was edge-legal edge-within nodes (stored (edge_length L) x (write_edge L s) edges) refl longs h.nodes_written
                (slot_kept (edge_length L) (read_edge L) (write_edge L) (OnLive (LegalEdge L)) (length-write_edge L) (read_write_edge L) edges h.edges_legal
                h.edges_written x s k good)
                h.nodes_legal (rw reads (OnLive-set (LegalEdge L) (read_edges L edges) x s good h.edges_legal));
          })
        where
          longs : length (stored (edge_length L) x (write_edge L s) edges) ≡ length edges
          longs =
              length-kept (edge_length L) (read_edge L) (write_edge L) (OnLive (LegalEdge L)) (length-write_edge L) (read_write_edge L) edges h.edges_legal
              h.edges_written x s k good

          reads : read_edges L (stored (edge_length L) x (write_edge L s) edges) ≡ set (read_edges L edges) x s
          reads =
              slot_read (edge_length L) (read_edge L) (write_edge L) (OnLive (LegalEdge L)) (length-write_edge L) (read_write_edge L) edges h.edges_legal
              h.edges_written x s k good

-- What the code does: the slot's bytes are recorded, and then stored over.

module _ (L : Layout) (sized : Sized L) (n x : ℕ) where
  pub node_in : x < n / node_length L → x < n / L.node
  node_in k = rw sized.node k

  pub edge_in : x < n / edge_length L → x < n / L.edge
  edge_in k = rw sized.edge k

module _ (L : Layout) (nodes edges journal : List ℕ) (used : ℕ) (h : Held L nodes edges journal used) (b nodes' edges' journal' : List ℕ)
    (x : ℕ)
  where
    pub node_done : (s : Slot Node) → OnLive (LegalNode L) s
        → (x < length nodes / node_length L) × (used < length journal / record_length L)
        → b ≡ get_or (cut L.node nodes) x []
        → journal' ≡ stored (record_length L) used (record_bytes L 1 x b) journal
        → nodes' ≡ stored (node_length L) x (write_node L s) nodes
        → Leads L (store (of_node x s) (ledger_of L nodes edges journal used)) nodes' edges journal' (used + 1)
    node_done s good k e f g =
        rw (g, f, e ∙ ap (λ (w : ℕ). get_or (cut w nodes) x []) h.sized.node) (node-step L nodes edges journal used h k.1 x k.0 s good)

    pub node-gone : (x < length nodes / node_length L) × (used < length journal / record_length L)
        → b ≡ get_or (cut L.node nodes) x []
        → journal' ≡ stored (record_length L) used (record_bytes L 1 x b) journal
        → nodes' ≡ stored L.node x (replicate L.node 0) nodes
        → Leads L (store (of_node x free) (ledger_of L nodes edges journal used)) nodes' edges journal' (used + 1)
    unfolding node_bytes
    node-gone k e f g =
        let z : node_length L ≡ node_length L - 0 = omega arith in
        node_done free tt k e f
        (g ∙ ap (λ (w : ℕ). stored w x (replicate w 0) nodes) h.sized.node ∙ ap (λ (w : ℕ). stored (node_length L) x (replicate w 0) nodes) z)

    pub edge-done : (s : Slot Edge) → OnLive (LegalEdge L) s
        → (x < length edges / edge_length L) × (used < length journal / record_length L)
        → b ≡ get_or (cut L.edge edges) x []
        → journal' ≡ stored (record_length L) used (record_bytes L 2 x b) journal
        → edges' ≡ stored (edge_length L) x (write_edge L s) edges
        → Leads L (store (of_edge x s) (ledger_of L nodes edges journal used)) nodes edges' journal' (used + 1)
    edge-done s good k e f g =
        rw (g, f, e ∙ ap (λ (w : ℕ). get_or (cut w edges) x []) h.sized.edge) (edge-step L nodes edges journal used h k.1 x k.0 s good)

    pub edge-gone : (x < length edges / edge_length L) × (used < length journal / record_length L)
        → b ≡ get_or (cut L.edge edges) x []
        → journal' ≡ stored (record_length L) used (record_bytes L 2 x b) journal
        → edges' ≡ stored L.edge x (replicate L.edge 0) edges
        → Leads L (store (of_edge x free) (ledger_of L nodes edges journal used)) nodes edges' journal' (used + 1)
    unfolding edge_bytes
    edge-gone k e f g =
        let z : edge_length L ≡ edge_length L - 0 = omega arith in
        edge-done free tt k e f
        (g ∙ ap (λ (w : ℕ). stored w x (replicate w 0) edges) h.sized.edge ∙ ap (λ (w : ℕ). stored (edge_length L) x (replicate w 0) edges) z)
