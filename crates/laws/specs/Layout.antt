-- Laws of Layout: what is read from bytes and written to them, slot by slot and table by table, and what the test of the
-- layout says of them. Rests on the meaning's Layout, and on Numbers and Pieces.
use Rattle.std.specs.Prelude.{ℕ, zero, suc, ◌+◌, ◌-◌, ◌*◌, ◌/◌, ◌%◌, ◌<◌, ◌≤◌, ◌≡◌, refl, Bool, true, false, not, eqb, length, take, drop}
use Rattle.std.proofs.Common.{sym, ◌∙◌, ap, length-append, length-take, take-append-drop, take-add, drop-drop}
use mathlib.Core.List.{List, [], ◌∷◌, ◌++◌, map}
use Rattle.std.proofs.Math.Nat.{mul_comm}
use native.Mathlib.Omega.{arith}
use Rattle.std.proofs.Math.Decide.{ℕ_discrete}
use borrow.Author.Tests.{eqb-true, leb-true, eq-eqb, le-leb}
use Rattle.std.proofs.Math.ListN.{get_or, length-drop}
use Rattle.std.proofs.lemmas.List.{length-replicate, length-map}
use Rattle.meaning.specs.Basics.{choose, clauses, zeros, concat, padded}
use Rattle.meaning.specs.Numbers.{number, bytes, whole}
use Rattle.meaning.specs.Layout.{Sized, base, four, small, Slot, free, live, is_live, Node, Edge, live_at, is_node_mark, is_edge_mark, node_length, edge_length, pieces, cut, read_atoms, read_node, read_edge, read_nodes, read_edges, atom_bytes, node_bytes, edge_bytes, write_node, write_edge, write_nodes, write_edges, keeps_node, keeps_edge, keeps_layout}
use Rattle.meaning.specs.declared.Layout.{Layout}
use Rattle.meaning.specs.Laws.Tests.{both_true, both_of, choose_eq, choose_ne, every_true, zeros-true, zeros_of, clauses-true}
use Rattle.laws.specs.Numbers.{Bytes, Bytes-drop, length-bytes, number-bytes, number-take_lt, bytes-number, bytes-number-take}
use Rattle.laws.specs.Pieces.{get_or-map_in, get_or-pieces, map_back, length-pieces, Wide, Wide-pieces, Bytes-pieces, length-slot, concat-pieces, length-concat, pieces-concat, write_read}

-- Zeros behind.

pub length-padded : (n : ℕ) (l : List ℕ) → length l ≤ n → length (padded n l) ≡ n
length-padded n l h = simp (length-append, length-replicate) (omega arith)

pub zeros-padded : (n : ℕ) → zeros (padded n []) ≡ true
zeros-padded n = zeros_of (n - 0)

pub get_or-zeros : (l : List ℕ) (i : ℕ) → zeros l ≡ true → get_or l i 0 ≡ 0
unfolding zeros
get_or-zeros [] i e = refl
get_or-zeros (a ∷ l) zero e = eqb-true a 0 (both_true _ _ e).0
get_or-zeros (a ∷ l) (suc i) e = get_or-zeros l i (both_true _ _ e).1

-- bytes whose end is zeros are their front, filled up
pub padded-take : (n k : ℕ) (l b : List ℕ) → l ≡ take k b → zeros (drop k b) ≡ true → length b ≡ n → padded n l ≡ b
padded-take n k l b p e h =
    let m : n - length (take k b) ≡ length (drop k b) = simp (length-take, length-drop) (omega arith) in
    rw (p, m, ← (zeros-true (drop k b) e)) (take-append-drop k b)

-- Atoms.

-- each atom of the label is a word
abbrev pub Words : List ℕ → Type 0
Words l = (i : ℕ) → get_or l i 0 < whole

pub length-atoms : (n : ℕ) (bs : List ℕ) → length (read_atoms n bs) ≡ n
length-atoms n bs = length-map (pieces 4 n bs) number ∙ length-pieces 4 n bs

pub Words-atoms : (n : ℕ) (bs : List ℕ) → Bytes bs → Words (read_atoms n bs)
unfolding pieces
Words-atoms zero bs h i = omega arith
Words-atoms (suc n) bs h zero = number-take_lt 4 bs h
Words-atoms (suc n) bs h (suc i) = Words-atoms n (drop 4 bs) (Bytes-drop 4 bs h) i

-- atom j, from its own bytes
pub get_or-atoms : (n : ℕ) (bs : List ℕ) (j : ℕ) → j < n → get_or (read_atoms n bs) j 0 ≡ number (take 4 (drop (j * 4) bs))
get_or-atoms n bs j h = get_or-map_in number (pieces 4 n bs) j [] 0 (rw (length-pieces 4 n bs) h) ∙ ap number (get_or-pieces 4 n bs j h)

Wide-bytes : (w : ℕ) (l : List ℕ) → Wide w (map (bytes w) l)
Wide-bytes w l i h = rw (get_or-map_in (bytes w) l i 0 [] (rw (length-map l (bytes w)) at h)) (length-bytes w (get_or l i 0))

pub length-atom_bytes : (l : List ℕ) → length (atom_bytes l) ≡ length l * 4
length-atom_bytes l = rw (length-concat 4 (map (bytes 4) l) (Wide-bytes 4 l), length-map l (bytes 4))

-- the bytes of atoms that were read
pub atom_bytes-atoms : (n : ℕ) (bs : List ℕ) → Bytes bs → n * 4 ≤ length bs → atom_bytes (read_atoms n bs) ≡ take (n * 4) bs
atom_bytes-atoms n bs h k = ap concat (map_back number (bytes 4) (pieces 4 n bs) [] same) ∙ concat-pieces 4 n bs
  where
    same : (i : ℕ) → i < length (pieces 4 n bs) → bytes 4 (number (get_or (pieces 4 n bs) i [])) ≡ get_or (pieces 4 n bs) i []
    same i j =
        let m : i < n = rw (length-pieces 4 n bs) at j in
        ap (λ (w : ℕ). bytes w (number (get_or (pieces 4 n bs) i []))) (sym (Wide-pieces 4 n bs k i j))
        ∙ bytes-number (get_or (pieces 4 n bs) i []) (Bytes-pieces 4 n bs i h m)

-- the atoms of bytes that were written, whatever stands behind them
pub atoms-atom_bytes : (l bs : List ℕ) → Words l → read_atoms (length l) (atom_bytes l ++ bs) ≡ l
atoms-atom_bytes l bs h =
    ap (λ (n : ℕ). read_atoms n (atom_bytes l ++ bs)) (sym (length-map l (bytes 4)))
    ∙ ap (map number) (pieces-concat 4 (map (bytes 4) l) bs (Wide-bytes 4 l))
    ∙ map_back (bytes 4) number l 0 (λ i k. number-bytes 4 (get_or l i 0) (h i))

-- Nodes.

pub read_node_free : (b : List ℕ) → get_or b 0 0 ≡ 0 → read_node b ≡ free
unfolding read_node
read_node_free b e = choose_eq (get_or b 0 0) 0 _ _ e

-- the node that a slot's bytes hold where its state is not 0
abbrev pub node_of : List ℕ → Node
node_of b = record { mark = get_or b 1 0; root = get_or b 2 0; label = read_atoms (get_or b 3 0) (drop 4 b) }

pub read_node_live : (b : List ℕ) → (get_or b 0 0 ≡ 0 → ⊥) → read_node b ≡ live (node_of b)
unfolding read_node
read_node_live b e = choose_ne (get_or b 0 0) 0 _ _ e

-- a slot is live exactly where its state is not 0
pub is_live_choose : {A : Type 0} (t : Bool) (a : A) → is_live (choose t free (live a)) ≡ not t
unfolding choose is_live
is_live_choose true a = refl
is_live_choose false a = refl

pub is_live_read_node : (b : List ℕ) → is_live (read_node b) ≡ not (eqb (get_or b 0 0) 0)
unfolding read_node
is_live_read_node b = is_live_choose (eqb (get_or b 0 0) 0) _

-- what the test says of a slot whose state is not 0
pub record KeepsNode (L : Layout) (b : List ℕ) : Type 0 where
  pub state : get_or b 0 0 ≡ 1
  pub mark : is_node_mark (get_or b 1 0) ≡ true
  pub root : get_or b 2 0 ≤ 1
  pub size : get_or b 3 0 ≤ L.atoms
  pub rest : zeros (drop (4 + 4 * get_or b 3 0) b) ≡ true

pub keeps_node-free : (L : Layout) (b : List ℕ) → get_or b 0 0 ≡ 0 → keeps_node L b ≡ zeros b
unfolding keeps_node
keeps_node-free L b e = choose_eq (get_or b 0 0) 0 _ _ e

pub keeps_node-live : (L : Layout) (b : List ℕ) → (get_or b 0 0 ≡ 0 → ⊥) → keeps_node L b ≡ true → KeepsNode L b
unfolding keeps_node
keeps_node-live L b e k =
    let t = clauses-true _ (sym (choose_ne (get_or b 0 0) 0 _ _ e) ∙ k) in
    record { state = eqb-true _ _ (t 0); mark = t 1; root = leb-true _ _ (t 2); size = leb-true _ _ (t 3); rest = t 4 }

pub keeps_node-of : (L : Layout) (b : List ℕ) → KeepsNode L b → keeps_node L b ≡ true
unfolding keeps_node clauses
keeps_node-of L b k =
    choose_ne (get_or b 0 0) 0 _ _ (λ e. omega (arith, k.state))
    ∙ both_of _ _ (eq-eqb _ _ k.state)
    (both_of _ _ k.mark
    (both_of _ _ (le-leb _ _ k.root)
    (both_of _ _ (le-leb _ _ k.size)
    (both_of _ _ k.rest refl))))

-- the four bytes in front, and n more
pub take-four : (n : ℕ) (b : List ℕ) → 4 ≤ length b
    → take (4 + n) b ≡ get_or b 0 0 ∷ get_or b 1 0 ∷ get_or b 2 0 ∷ get_or b 3 0 ∷ take n (drop 4 b)
take-four n b h = take-add 4 n b ∙ ap (λ (l : List ℕ). l ++ take n (drop 4 b)) (front b h)
  where
    front : (b : List ℕ) → 4 ≤ length b → take 4 b ≡ get_or b 0 0 ∷ get_or b 1 0 ∷ get_or b 2 0 ∷ get_or b 3 0 ∷ []
    front [] h = absurd (omega arith)
    front (b0 ∷ []) h = absurd (omega arith)
    front (b0 ∷ b1 ∷ []) h = absurd (omega arith)
    front (b0 ∷ b1 ∷ b2 ∷ []) h = absurd (omega arith)
    front (b0 ∷ b1 ∷ b2 ∷ b3 ∷ b) h = refl

module _ (L : Layout) where
  pub write_read-node : (b : List ℕ) → Bytes b → length b ≡ node_length L → keeps_node L b ≡ true → write_node L (read_node b) ≡ b
  unfolding node_bytes
  write_read-node b h l k = at (ℕ_discrete (get_or b 0 0) 0)
    where
      at : Dec (get_or b 0 0 ≡ 0) → write_node L (read_node b) ≡ b
      at (yes e) = padded-take (node_length L) 0 _ b (ap node_bytes (read_node_free b e)) (sym (keeps_node-free L b e) ∙ k) l
      at (no e) =
          let t = keeps_node-live L b e k in
          let n = get_or b 3 0 in
          let m = t.size in
          padded-take (node_length L) (4 + 4 * n) _ b
          (ap node_bytes (read_node_live b e)
          ∙ rw (
            take-four (4 * n) b (omega arith),
            t.state,
            length-atoms n (drop 4 b),
            atom_bytes-atoms n (drop 4 b) (Bytes-drop 4 b h) (rw length-drop (omega arith)),
            mul_comm n 4,
          ))
          t.rest
          l

-- Edges.

-- ends and label that were read are written as they stood
ends_label : (w n : ℕ) (c : List ℕ) → Bytes c → 2 * w + n * 4 ≤ length c
    → bytes w (number (take w c)) ++ bytes w (number (take w (drop w c))) ++ atom_bytes (read_atoms n (drop (2 * w) c))
    ≡ take (2 * w + n * 4) c
ends_label w n c h k =
    let d : 2 * w ≡ w + w = omega arith in
    rw (
      bytes-number-take w c h (omega arith),
      bytes-number-take w (drop w c) (Bytes-drop w c h) (rw length-drop (omega arith)),
      atom_bytes-atoms n (drop (2 * w) c) (Bytes-drop (2 * w) c h) (rw length-drop (omega arith)),
      take-add (2 * w) (n * 4) c,
      d,
      take-add w w c,
    )

module _ (L : Layout) where
  pub read_edge-free : (b : List ℕ) → get_or b 0 0 ≡ 0 → read_edge L b ≡ free
  unfolding read_edge
  read_edge-free b e = choose_eq (get_or b 0 0) 0 _ _ e

  -- the edge that a slot's bytes hold where its state is not 0
  abbrev pub edge_of : List ℕ → Edge
  edge_of b =
      record {
        mark = get_or b 1 0;
        source = number (take L.width (drop 4 b));
        target = number (take L.width (drop (4 + L.width) b));
        label = read_atoms (get_or b 3 0) (drop (4 + 2 * L.width) b);
      }

  pub read_edge-live : (b : List ℕ) → (get_or b 0 0 ≡ 0 → ⊥) → read_edge L b ≡ live (edge_of b)
  unfolding read_edge
  read_edge-live b e = choose_ne (get_or b 0 0) 0 _ _ e

  pub is_live-read_edge : (b : List ℕ) → is_live (read_edge L b) ≡ not (eqb (get_or b 0 0) 0)
  unfolding read_edge
  is_live-read_edge b = is_live_choose (eqb (get_or b 0 0) 0) _

  -- what the test says of a slot whose state is not 0
  pub record KeepsEdge (nodes : List (Slot Node)) (b : List ℕ) : Type 0 where
    pub state : get_or b 0 0 ≡ 1
    pub mark : is_edge_mark (get_or b 1 0) ≡ true
    pub unused : get_or b 2 0 ≡ 0
    pub size : get_or b 3 0 ≤ L.atoms
    pub source : live_at nodes (edge_of b).source ≡ true
    pub target : live_at nodes (edge_of b).target ≡ true
    pub rest : zeros (drop (4 + 2 * L.width + 4 * get_or b 3 0) b) ≡ true

  module _ (nodes : List (Slot Node)) (b : List ℕ) where
    pub keeps_edge-free : get_or b 0 0 ≡ 0 → keeps_edge L nodes b ≡ zeros b
    unfolding keeps_edge
    keeps_edge-free e = choose_eq (get_or b 0 0) 0 _ _ e

    pub keeps_edge-live : (get_or b 0 0 ≡ 0 → ⊥) → keeps_edge L nodes b ≡ true → KeepsEdge nodes b
    unfolding keeps_edge
    keeps_edge-live e k =
        let t = clauses-true _ (sym (choose_ne (get_or b 0 0) 0 _ _ e) ∙ k) in
        record {
          state = eqb-true _ _ (t 0);
          mark = t 1;
          unused = eqb-true _ _ (t 2);
          size = leb-true _ _ (t 3);
          source = t 4;
          target = t 5;
          rest = t 6;
        }

    pub keeps_edge-of : KeepsEdge nodes b → keeps_edge L nodes b ≡ true
    unfolding keeps_edge clauses
    keeps_edge-of k =
        choose_ne (get_or b 0 0) 0 _ _ (λ e. omega (arith, k.state))
        ∙ both_of _ _ (eq-eqb _ _ k.state)
        (both_of _ _ k.mark
        (both_of _ _ (eq-eqb _ _ k.unused)
        (both_of _ _ (le-leb _ _ k.size) (both_of _ _ k.source (both_of _ _ k.target (both_of _ _ k.rest refl))))))

    pub write_read-edge : Bytes b → length b ≡ edge_length L → keeps_edge L nodes b ≡ true → write_edge L (read_edge L b) ≡ b
    unfolding edge_bytes
    write_read-edge h l k = at (ℕ_discrete (get_or b 0 0) 0)
      where
        at : Dec (get_or b 0 0 ≡ 0) → write_edge L (read_edge L b) ≡ b
        at (yes e) = padded-take (edge_length L) 0 _ b (ap (edge_bytes L) (read_edge-free b e)) (sym (keeps_edge-free e) ∙ k) l
        at (no e) =
            let t = keeps_edge-live e k in
            let n = get_or b 3 0 in
            let m = t.size in
            let w = L.width in
            let q : 4 + 2 * w + 4 * n ≡ 4 + (2 * w + n * 4) = omega arith in
            padded-take (edge_length L) (4 + 2 * w + 4 * n) _ b
            (ap (edge_bytes L) (read_edge-live b e)
            ∙ rw (
              q,
              take-four (2 * w + n * 4) b (omega arith),
              t.state,
              t.unused,
              length-atoms n (drop (4 + 2 * w) b),
              ← (drop-drop w 4 b),
              ← (drop-drop (2 * w) 4 b),
              ends_label w n (drop 4 b) (Bytes-drop 4 b h) (rw length-drop (omega arith)),
            ))
            t.rest
            l

-- Tables: writing what was read gives the same bytes, where a table fits and the test holds.

module _ (L : Layout) (nodes edges : List ℕ) (k : keeps_layout L nodes edges ≡ true) where
  pub kept-node : (i : ℕ) → i < length nodes / node_length L → keeps_node L (get_or (cut (node_length L) nodes) i []) ≡ true
  unfolding keeps_layout
  kept-node i h = every_true _ _ [] (both_true _ _ k).0 i (rw length-pieces h)

  pub kept-edge : (i : ℕ) → i < length edges / edge_length L
      → keeps_edge L (read_nodes L nodes) (get_or (cut (edge_length L) edges) i []) ≡ true
  unfolding keeps_layout
  kept-edge i h = every_true _ _ [] (both_true _ _ k).1 i (rw length-pieces h)

  pub write_read-nodes : Bytes nodes → length nodes % node_length L ≡ 0 → write_nodes L (read_nodes L nodes) ≡ nodes
  write_read-nodes h e =
      write_read (node_length L) read_node (write_node L) nodes e
      (λ i j. write_read-node L _ (Bytes-pieces _ _ nodes i h j) (length-slot _ nodes i j) (kept-node i j))

  pub write_read-edges : Bytes edges → length edges % edge_length L ≡ 0 → write_edges L (read_edges L edges) ≡ edges
  write_read-edges h e =
      write_read (edge_length L) (read_edge L) (write_edge L) edges e
      (λ i j. write_read-edge L _ _ (Bytes-pieces _ _ edges i h j) (length-slot _ edges i j) (kept-edge i j))

-- Document 01's layout is sized, and so are those of old tables and of the small core.

pub base-sized : Sized base
base-sized = record { node = refl; edge = refl; change = refl; atoms = omega arith; narrow = omega arith; wide = omega arith }

pub four-sized : Sized four
four-sized = record { node = refl; edge = refl; change = refl; atoms = omega arith; narrow = omega arith; wide = omega arith }

pub small-sized : Sized small
small-sized = record { node = refl; edge = refl; change = refl; atoms = omega arith; narrow = omega arith; wide = omega arith }
