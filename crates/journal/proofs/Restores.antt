-- Putting recorded stores back restores what was there, at the level of slots and of bytes: a journal that holds the records
-- of some changes, put back from its end to an earlier count, gives the tables of the host that the later changes were made to.
-- Rests on Journal and on laws' Hosts and Records.
use Rattle.std.specs.Prelude.{ℕ, zero, suc, ◌-◌, ◌%◌, ◌<◌, ◌≤◌, ◌≡◌, refl, List, [], ◌∷◌, map, reverse, length, take, drop}
use Rattle.std.proofs.Common.{sym, ◌∙◌, ap, arith, length-drop, take-append-drop, drop_at}
use Rattle.std.proofs.lemmas.List.{reverse-append, reverse-reverse, length-reverse, length-map}
use Rattle.meaning.specs.Basics.{concat, padded}
use Rattle.meaning.specs.Layout.{Slot, Node, Edge, Tables, Host, Change, undone, node_length, edge_length, record_length, write_node, write_edge, write_nodes, write_edges, write_record, read_record}
use Rattle.meaning.specs.Calls.{counted}
use Rattle.meaning.specs.Laws.Every.{Every}
use Rattle.laws.specs.Pieces.{pieces-drop, concat-cut}
use Rattle.laws.specs.Hosts.{LegalHost, cut-nodes, cut-edges}
use Rattle.laws.specs.Records.{map_change, map_tables, undone-map, LegalChange, records-written}
use Rattle.meaning.specs.declared.Layout.{Layout}
use Rattle.journal.specs.Journal.{tables_of, records_from, put_back}

-- Lists.

map-drop : {A B : Type 0} (f : A → B) (n : ℕ) (l : List A) → map f (drop n l) ≡ drop n (map f l)
map-drop f zero l = refl
map-drop f (suc n) [] = refl
map-drop f (suc n) (a ∷ l) = map-drop f n l

map-take : {A B : Type 0} (f : A → B) (n : ℕ) (l : List A) → take n (map f l) ≡ map f (take n l)
map-take f zero l = refl
map-take f (suc n) [] = refl
map-take f (suc n) (a ∷ l) = let e = map-take f n l in cc

-- the last elements, turned round, are the first of the list turned round
reverse-drop : {A : Type 0} (m : ℕ) (l : List A) → m ≤ length l → reverse (drop m (reverse l)) ≡ take (length l - m) l
reverse-drop m l h =
    let k = length l - m in
    let n : length (reverse (drop k l)) ≡ m = length-reverse (drop k l) ∙ length-drop k l ∙ omega arith in
    ap (λ x. reverse (drop m (reverse x))) (sym (take-append-drop k l))
    ∙ ap (λ x. reverse (drop m x)) (reverse-append (take k l) (drop k l))
    ∙ ap reverse (drop_at (reverse (drop k l)) (reverse (take k l)) m n)
    ∙ reverse-reverse (take k l)

-- Records of changes, the last change first.

module _ (L : Layout) (wide : 0 < L.width) (js : List (Change (Slot Node) (Slot Edge))) (n mark : ℕ) (legal : Every (LegalChange L) js)
    (h : Host) (host : LegalHost L h) (m : mark ≤ length js) where
  -- a journal of these records
  abbrev journal : List ℕ
  journal = padded n (concat (map (write_record L) (reverse js)))

  later : reverse (map (read_record L) (records_from L mark (length js) journal)) ≡ map (map_change (write_node L) (write_edge L)) (take (length js - mark) js)
  later =
      let c : List (Change (List ℕ) (List ℕ)) = map (map_change (write_node L) (write_edge L)) js in
      let e : map (read_record L) (counted L (length js) journal) ≡ reverse c =
      sym (reverse-reverse (map (read_record L) (counted L (length js) journal))) ∙ ap reverse (records-written L wide js legal n) in
      let k : length c ≡ length js = length-map js (map_change (write_node L) (write_edge L)) in
      ap (λ (l : List (List ℕ)). reverse (map (read_record L) l)) (pieces-drop (record_length L) mark (length js) journal m)
      ∙ ap reverse (map-drop (read_record L) mark (counted L (length js) journal) ∙ ap (drop mark) e)
      ∙ reverse-drop mark c (rw k m)
      ∙ ap (λ (i : ℕ). take (i - mark) c) k
      ∙ map-take (map_change (write_node L) (write_edge L)) (length js - mark) js

  -- on slots
  pub restores-slots : put_back L mark (length js) journal (tables_of L (write_nodes L h.nodes) (write_edges L h.edges))
      ≡ map_tables (write_node L) (write_edge L) (undone (take (length js - mark) js) h)
  unfolding put_back
  restores-slots =
      (λ i. undone (later i) (record { nodes = cut-nodes L h host i; edges = cut-edges L h host i }))
      ∙ undone-map (write_node L) (write_edge L) (take (length js - mark) js) h

  -- on bytes: tables that are what putting back gives, and whole
  pub restores-bytes : (nodes edges : List ℕ) → length nodes % node_length L ≡ 0 → length edges % edge_length L ≡ 0
      → tables_of L nodes edges ≡ put_back L mark (length js) journal (tables_of L (write_nodes L h.nodes) (write_edges L h.edges))
      → (nodes ≡ write_nodes L (undone (take (length js - mark) js) h).nodes) × (edges ≡ write_edges L (undone (take (length js - mark) js) h).edges)
  restores-bytes nodes edges p q e =
      let t = e ∙ restores-slots in (
        sym (concat-cut (node_length L) nodes p) ∙ ap (λ (x : Tables (List ℕ) (List ℕ)). concat x.nodes) t,
        sym (concat-cut (edge_length L) edges q) ∙ ap (λ (x : Tables (List ℕ) (List ℕ)). concat x.edges) t,
      )
