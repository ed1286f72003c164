-- Our undo does what the demands say of an accepted one: it stores the counted records back from last to first. First undo record by
-- record, over cut tables: the last counted record is stored back first. Rests on Ours and laws' Calls, Records and Pieces.
use Rattle.std.specs.Prelude.{ℕ, zero, suc, ◌*◌, ◌/◌, ◌%◌, ◌<◌, ◌≤◌, ◌≡◌, ◌⊎◌, length, get_or, take}
use Rattle.std.proofs.Math.Path.{refl, ap}
use Rattle.std.proofs.Common.{sym, ◌∙◌, inl, inr, arith, suc-mul, div-mul-le_self, mul-le-mul_right, length-take, length-drop}
use Rattle.std.proofs.Math.Bool.{true}
use Rattle.std.proofs.Math.Option.{none}
use mathlib.Core.List.{List, [], ◌∷◌, ◌++◌, map, reverse, map-append, reverse-append}
use Rattle.meaning.specs.Basics.{every, concat}
use Rattle.meaning.specs.Layout.{Tables, Change, of_node, of_edge, put, undone, node_length, edge_length, record_length, pieces, cut, slot_of, read_record, keeps_record}
use Rattle.meaning.specs.Calls.{LentUndo, Returned, answer_number, counted, tables_undone, undo_on}
use Rattle.demands.specs.Demands.{undo_refused_with, record_at, before, with_slot, stored_back, StoredBack}
use Rattle.demands.specs.Ours.{ours}
use Rattle.demands.proofs.Ours.{undoing-none, undo-outcome}
use Rattle.meaning.specs.Laws.Tests.{both_true, every_append, choose_eq, choose_ne}
use Rattle.laws.specs.Calls.{undo-accepted}
use Rattle.laws.specs.Pieces.{fits-length, concat-cut, pieces-suc, stored, cut-stored, length-stored, slot-within}
use Rattle.laws.specs.Records.{keeps_record-true}
use Rattle.meaning.specs.declared.Layout.{Layout}

-- Records as undo reads them.

module _ (L : Layout) (r : List ℕ) where
  read_record-node : get_or r 0 0 ≡ 1 → read_record L r ≡ of_node (slot_of L r) (take (node_length L) (before L r))
  unfolding read_record
  read_record-node e = choose_eq (get_or r 0 0) 1 _ _ e

  read_record-edge : get_or r 0 0 ≡ 2 → read_record L r ≡ of_edge (slot_of L r) (take (edge_length L) (before L r))
  unfolding read_record
  read_record-edge e = choose_ne (get_or r 0 0) 1 _ _ (λ k. omega arith)

-- the bytes before are as long as the slot that they go back to
length_before : (L : Layout) (n : ℕ) (journal : List ℕ) → suc n * record_length L ≤ length journal → (w : ℕ) → w ≤ edge_length L
    → length (take w (before L (record_at L journal n))) ≡ w
length_before L n journal h w k = simp (length-take, length-drop) (omega (arith, suc-mul n (record_length L)))

-- Record by record.

module _ (L : Layout) (nodes edges journal : List ℕ) where
  abbrev slots : Tables (List ℕ) (List ℕ)
  slots = record { nodes = cut (node_length L) nodes; edges = cut (edge_length L) edges }

  -- the first n records, the last of them first
  abbrev earlier : ℕ → List (Change (List ℕ) (List ℕ))
  earlier n = reverse (map (read_record L) (counted L n journal))

  undo-none : tables_undone L nodes edges journal 0 ≡ slots
  unfolding tables_undone undone pieces
  undo-none = refl

  undo-last : (n : ℕ) (c : Change (List ℕ) (List ℕ)) → read_record L (record_at L journal n) ≡ c
      → tables_undone L nodes edges journal (suc n) ≡ undone (earlier n) (put c slots)
  unfolding tables_undone undone
  undo-last n c e =
      let last : earlier (suc n) ≡ read_record L (record_at L journal n) ∷ earlier n =
      rw (pieces-suc (record_length L) n journal, map-append, reverse-append) in
      ap (λ (cs : List (Change (List ℕ) (List ℕ))). undone cs slots) last
      ∙ ap (λ (d : Change (List ℕ) (List ℕ)). undone (earlier n) (put d slots)) e

  undo-node : (n i : ℕ) (b : List ℕ) → read_record L (record_at L journal n) ≡ of_node i b
      → i < length nodes / node_length L → length b ≡ node_length L
      → tables_undone L nodes edges journal (suc n) ≡ tables_undone L (stored (node_length L) i b nodes) edges journal n
  unfolding tables_undone put
  undo-node n i b e h k =
      undo-last n (of_node i b) e
      ∙ ap (λ (l : List (List ℕ)). undone (earlier n) (record { nodes = l; edges = slots.edges }))
      (sym (cut-stored (node_length L) i b nodes h k))

  undo-edge : (n i : ℕ) (b : List ℕ) → read_record L (record_at L journal n) ≡ of_edge i b
      → i < length edges / edge_length L → length b ≡ edge_length L
      → tables_undone L nodes edges journal (suc n) ≡ tables_undone L nodes (stored (edge_length L) i b edges) journal n
  unfolding tables_undone put
  undo-edge n i b e h k =
      undo-last n (of_edge i b) e
      ∙ ap (λ (l : List (List ℕ)). undone (earlier n) (record { nodes = slots.nodes; edges = l }))
      (sym (cut-stored (edge_length L) i b edges h k))

-- So the tables are those that the demands speak of.

module _ (L : Layout) (journal : List ℕ) where
  -- what our undo leaves of both tables
  abbrev tables : ℕ → List ℕ → List ℕ → List ℕ × List ℕ
  tables n nodes edges =
      (concat (tables_undone L nodes edges journal n).nodes, concat (tables_undone L nodes edges journal n).edges)

  -- whole tables with the records of a count that keep to them
  record Fit (n : ℕ) (nodes edges : List ℕ) : Type 0 where
    nodes_whole : length nodes % node_length L ≡ 0
    edges_whole : length edges % edge_length L ≡ 0
    room : n * record_length L ≤ length journal
    keeps : every (keeps_record L (length nodes / node_length L) (length edges / edge_length L)) (counted L n journal) ≡ true

  back-node : (n : ℕ) (nodes edges : List ℕ) → get_or (record_at L journal n) 0 0 ≡ 1
      → stored_back L journal (suc n) nodes edges
      ≡ stored_back L journal n (with_slot (node_length L) (slot_of L (record_at L journal n)) (before L (record_at L journal n)) nodes) edges
  unfolding stored_back
  back-node n nodes edges e = choose_eq (get_or (record_at L journal n) 0 0) 1 _ _ e

  back-edge : (n : ℕ) (nodes edges : List ℕ) → get_or (record_at L journal n) 0 0 ≡ 2
      → stored_back L journal (suc n) nodes edges
      ≡ stored_back L journal n nodes (with_slot (edge_length L) (slot_of L (record_at L journal n)) (before L (record_at L journal n)) edges)
  unfolding stored_back
  back-edge n nodes edges e = choose_ne (get_or (record_at L journal n) 0 0) 1 _ _ (λ k. omega arith)

  -- the counted records but the last keep to their tables, and so does the last
  keeps-last : (m k n : ℕ) → every (keeps_record L m k) (counted L (suc n) journal) ≡ true
      → (every (keeps_record L m k) (counted L n journal) ≡ true) × (keeps_record L m k (record_at L journal n) ≡ true)
  unfolding every
  keeps-last m k n e =
      let q : every (keeps_record L m k) (counted L n journal ++ (record_at L journal n ∷ [])) ≡ true =
      ap (every (keeps_record L m k)) (sym (pieces-suc (record_length L) n journal)) ∙ e in
      let t = both_true _ _ (sym (every_append (keeps_record L m k) (counted L n journal) (record_at L journal n ∷ [])) ∙ q) in
      (t.0, (both_true _ _ t.1).0)

  same_tables : (n : ℕ) (nodes edges : List ℕ) → Fit n nodes edges → tables n nodes edges ≡ stored_back L journal n nodes edges
  same_tables zero nodes edges f =
      rw (undo-none L nodes edges journal, concat-cut (node_length L) nodes f.nodes_whole, concat-cut (edge_length L) edges f.edges_whole)
      (unfold stored_back in refl)
  same_tables (suc n) nodes edges f = at (λ ns es. same_tables n ns es) (keeps_record-true L (record_at L journal n) _ _ k.1)
    where
      k : (every (keeps_record L (length nodes / node_length L) (length edges / edge_length L)) (counted L n journal) ≡ true)
          × (keeps_record L (length nodes / node_length L) (length edges / edge_length L) (record_at L journal n) ≡ true)
      k = keeps-last (length nodes / node_length L) (length edges / edge_length L) n f.keeps

      fewer : n * record_length L ≤ length journal
      fewer = omega (arith, f.room, suc-mul n (record_length L))

      at : ((ns es : List ℕ) → Fit n ns es → tables n ns es ≡ stored_back L journal n ns es)
          → ((get_or (record_at L journal n) 0 0 ≡ 1) × (slot_of L (record_at L journal n) < length nodes / node_length L)) ⊎ ((get_or (record_at L journal n) 0 0 ≡ 2) × (slot_of L (record_at L journal n) < length edges / edge_length L))
          → tables (suc n) nodes edges ≡ stored_back L journal (suc n) nodes edges
      at again (inl c) =
          let b : List ℕ = take (node_length L) (before L (record_at L journal n)) in
          let w : length b ≡ node_length L = length_before L n journal f.room (node_length L) (omega arith) in
          let s : List ℕ = with_slot (node_length L) (slot_of L (record_at L journal n)) (before L (record_at L journal n)) nodes in
          let l : length s ≡ length nodes = length-stored (node_length L) (slot_of L (record_at L journal n)) b nodes (slot-within (node_length L) (slot_of L (record_at L journal n)) (length nodes) c.1) w in
          let u = undo-node L nodes edges journal n (slot_of L (record_at L journal n)) b (read_record-node L (record_at L journal n) c.0) c.1 w in
          let g : Fit n s edges =
          record { nodes_whole = rw l f.nodes_whole; edges_whole = f.edges_whole; room = fewer; keeps = rw l k.0 } in
          ap (λ (t : Tables (List ℕ) (List ℕ)). (concat t.nodes, concat t.edges)) u ∙ again s edges g ∙ sym (back-node n nodes edges c.0)
      at again (inr c) =
          let b : List ℕ = take (edge_length L) (before L (record_at L journal n)) in
          let w : length b ≡ edge_length L = length_before L n journal f.room (edge_length L) (omega arith) in
          let s : List ℕ = with_slot (edge_length L) (slot_of L (record_at L journal n)) (before L (record_at L journal n)) edges in
          let l : length s ≡ length edges = length-stored (edge_length L) (slot_of L (record_at L journal n)) b edges (slot-within (edge_length L) (slot_of L (record_at L journal n)) (length edges) c.1) w in
          let u = undo-edge L nodes edges journal n (slot_of L (record_at L journal n)) b (read_record-edge L (record_at L journal n) c.0) c.1 w in
          let g : Fit n nodes s =
          record { nodes_whole = f.nodes_whole; edges_whole = rw l f.edges_whole; room = fewer; keeps = rw l k.0 } in
          ap (λ (t : Tables (List ℕ) (List ℕ)). (concat t.nodes, concat t.edges)) u ∙ again nodes s g ∙ sym (back-edge n nodes edges c.0)

-- what is known of an accepted undo
fit : (L : Layout) (y : LentUndo) → undo_refused_with L y ≡ none → Fit L y.journal y.count y.nodes y.edges
fit L y e =
    let a = undo-accepted L y (undoing-none L y e) in
    let c = mul-le-mul_right (record_length L) a.within in
    record {
      nodes_whole = (fits-length (node_length L) L.nodes y.nodes a.nodes_fit).0;
      edges_whole = (fits-length (edge_length L) L.edges y.edges a.edges_fit).0;
      room = omega (arith, c, div-mul-le_self (length y.journal) (record_length L));
      keeps = a.kept;
    }

pub ours-undoes : (L : Layout) (y : LentUndo) → undo_refused_with L y ≡ none → StoredBack L y ((ours L).undo y)
unfolding undo_on answer_number
ours-undoes L y e =
    let l = undo-outcome L y (undoing-none L y e) in
    let t = same_tables L y.journal y.count y.nodes y.edges (fit L y e) in
    record {
      answer = ap (λ (o : Returned). answer_number o.answer) l;
      nodes = ap (λ (o : Returned). o.nodes) l ∙ ap (λ (p : List ℕ × List ℕ). p.0) t;
      edges = ap (λ (o : Returned). o.edges) l ∙ ap (λ (p : List ℕ × List ℕ). p.1) t;
      journal = ap (λ (o : Returned). o.journal) l;
      report = ap (λ (o : Returned). o.report) l;
    }
