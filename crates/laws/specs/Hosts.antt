-- Laws of legal slots and hosts: a legal slot is written and read back, what is read where the test of the layout holds is
-- legal, and a legal host is written as tables that keep the layout. Rests on the meaning's Layout,
-- Laws/Slots and Laws/Attached, and on Numbers, Pieces and Layout.
use Rattle.std.specs.Prelude.{ℕ, ◌+◌, ◌-◌, ◌*◌, ◌/◌, ◌^◌, ◌<◌, ◌≤◌, ◌≡◌, ◌⊎◌, eqb, leb, get_or, drop, replicate}
use Rattle.std.proofs.Math.Path.{refl, ap}
use Rattle.std.proofs.Common.{sym, ◌∙◌, inl, inr, arith, eqb-true, leb-true, length-append, drop-drop}
use mathlib.Core.List.{List, [], ◌++◌, map, append_assoc}
use Rattle.std.proofs.Math.Bool.{true}
use Rattle.std.proofs.Math.Decide.{ℕ_discrete, dec_lt}
use Rattle.std.proofs.Math.ListN.{length, get_or-eq_default}
use Rattle.std.proofs.Math.Seq.{drop_at}
use Rattle.meaning.specs.Basics.{zeros}
use Rattle.meaning.specs.Numbers.{bytes}
use Rattle.meaning.specs.Layout.{Slot, free, live, Node, Edge, Host, live_at, is_node_mark, is_edge_mark, node_length, edge_length, cut, read_atoms, read_node, read_edge, read_nodes, read_edges, atom_bytes, node_bytes, edge_bytes, write_node, write_edge, write_nodes, write_edges, keeps_node, keeps_edge, keeps_layout}
use Rattle.meaning.specs.declared.Layout.{Layout}
use Rattle.meaning.specs.Laws.Tests.{both_of, either_true, zeros_of}
use Rattle.meaning.specs.Laws.Slots.{OnLive}
use Rattle.meaning.specs.Laws.Attached.{Attached}
use Rattle.meaning.proofs.Laws.Attached.{layout_attached}
use Rattle.laws.specs.Numbers.{Bytes, Bytes-drop, length-bytes, number-bytes, number-take_lt}
use Rattle.laws.specs.Pieces.{get_or-map_in, length-pieces, Bytes-pieces, take-first, take_second, drop-both, length-read, length_write, cut_write, read_write, every_write}
use Rattle.laws.specs.Layout.{length-padded, zeros-padded, get_or-zeros, Words, length-atoms, Words-atoms, length-atom_bytes, atoms-atom_bytes, read_node_free, read_node_live, keeps_node-free, keeps_node-live, keeps_node-of, edge_of, read_edge-free, read_edge-live, keeps_edge-free, keeps_edge-live, keeps_edge-of, kept-node, kept-edge}

-- Legal slots: what a slot may hold.

pub record LegalNode (L : Layout) (n : Node) : Type 0 where
  pub mark : is_node_mark n.mark ≡ true
  pub root : n.root ≤ 1
  pub size : length n.label ≤ L.atoms
  pub words : Words n.label

pub record LegalEdge (L : Layout) (e : Edge) : Type 0 where
  pub mark : is_edge_mark e.mark ≡ true
  pub source : e.source < 256 ^ L.width
  pub target : e.target < 256 ^ L.width
  pub size : length e.label ≤ L.atoms
  pub words : Words e.label

pub node_mark_le : (m : ℕ) → is_node_mark m ≡ true → m ≤ 4
unfolding is_node_mark
node_mark_le m e = leb-true m 4 e

pub edge_mark_le : (m : ℕ) → is_edge_mark m ≡ true → m ≤ 5
unfolding is_edge_mark
edge_mark_le m e = at (either_true _ _ e)
  where
    at : (leb m 3 ≡ true) ⊎ (eqb m 5 ≡ true) → m ≤ 5
    at (inl k) = omega (arith, leb-true m 3 k)
    at (inr k) = omega (arith, eqb-true m 5 k)

-- what is behind l, which stands behind four bytes
drop-four : (n : ℕ) (b l r : List ℕ) → drop 4 b ≡ l ++ r → length l ≡ n → drop (4 + n) b ≡ r
drop-four n b l r e h = sym (drop-drop n 4 b) ∙ ap (drop n) e ∙ drop_at l r n h

module _ (L : Layout) where
  pub length-write_node : (s : Slot Node) → OnLive (LegalNode L) s → length (write_node L s) ≡ node_length L
  unfolding node_bytes
  length-write_node free h = length-padded (node_length L) [] (omega arith)
  length-write_node (live n) h =
      let k = h.size in length-padded (node_length L) (node_bytes (live n)) (omega (arith, length-atom_bytes n.label))

  pub read_write_node : (s : Slot Node) → OnLive (LegalNode L) s → read_node (write_node L s) ≡ s
  unfolding node_bytes
  read_write_node free h = read_node_free (write_node L free) (get_or-zeros (write_node L free) 0 (zeros-padded (node_length L)))
  read_write_node (live n) h =
      read_node_live (write_node L (live n)) (λ e. omega arith)
      ∙ ap (λ (l : List ℕ). live (record { mark = n.mark; root = n.root; label = l })) (atoms-atom_bytes n.label _ h.words)

  pub keeps_node-write_node : (s : Slot Node) → OnLive (LegalNode L) s → keeps_node L (write_node L s) ≡ true
  unfolding node_bytes
  keeps_node-write_node free h =
      let z = zeros-padded (node_length L) in keeps_node-free L (write_node L free) (get_or-zeros (write_node L free) 0 z) ∙ z
  keeps_node-write_node (live n) h =
      keeps_node-of L (write_node L (live n))
      (record {
        state = refl;
        mark = h.mark;
        root = h.root;
        size = h.size;
        rest =
            ap zeros (drop-four (4 * length n.label) _ (atom_bytes n.label) _ refl (omega (arith, length-atom_bytes n.label)))
            ∙ zeros_of (node_length L - length (node_bytes (live n)));
      })

module _ (L : Layout) where
  pub length-write_edge : (s : Slot Edge) → OnLive (LegalEdge L) s → length (write_edge L s) ≡ edge_length L
  unfolding edge_bytes
  length-write_edge free h = length-padded (edge_length L) [] (omega arith)
  length-write_edge (live e) h =
      let k = h.size in
      length-padded (edge_length L) (edge_bytes L (live e))
      (simp (length-append, length-bytes, length-atom_bytes) (omega arith))

  -- a live edge's bytes behind the first four: source, target, and the label with zeros behind it
  abbrev filling : Edge → List ℕ
  filling e = replicate (edge_length L - length (edge_bytes L (live e))) 0

  abbrev behind : Edge → List ℕ
  behind e = atom_bytes e.label ++ filling e

  drop-state : (e : Edge) → drop 4 (write_edge L (live e)) ≡ bytes L.width e.source ++ bytes L.width e.target ++ behind e
  unfolding edge_bytes
  drop-state e = append_assoc (bytes L.width e.source ++ bytes L.width e.target) (atom_bytes e.label) _

  written-source : (e : Edge) → LegalEdge L e → (edge_of L (write_edge L (live e))).source ≡ e.source
  written-source e h =
      rw (drop-state e, take-first L.width _ _ (behind e) (length-bytes _ _) (length-bytes _ _))
      (number-bytes L.width e.source h.source)

  written-target : (e : Edge) → LegalEdge L e → (edge_of L (write_edge L (live e))).target ≡ e.target
  written-target e h =
      rw (
        ← (drop-drop L.width 4 (write_edge L (live e))),
        drop-state e,
        take_second L.width _ _ (behind e) (length-bytes _ _) (length-bytes _ _),
      )
      (number-bytes L.width e.target h.target)

  drop-ends : (e : Edge) → drop (4 + 2 * L.width) (write_edge L (live e)) ≡ behind e
  drop-ends e =
      rw (← (drop-drop (2 * L.width) 4 (write_edge L (live e))), drop-state e)
      (drop-both L.width (bytes L.width e.source) (bytes L.width e.target) (behind e) (length-bytes _ _) (length-bytes _ _))

  pub read_write_edge : (s : Slot Edge) → OnLive (LegalEdge L) s → read_edge L (write_edge L s) ≡ s
  unfolding edge_bytes
  read_write_edge free h = read_edge-free L (write_edge L free) (get_or-zeros (write_edge L free) 0 (zeros-padded (edge_length L)))
  read_write_edge (live e) h =
      read_edge-live L (write_edge L (live e)) (λ q. omega arith)
      ∙ (λ i. live (record { mark = e.mark; source = written-source e h i; target = written-target e h i; label = label i }))
    where
      label : read_atoms (length e.label) (drop (4 + 2 * L.width) (write_edge L (live e))) ≡ e.label
      label = rw (drop-ends e) (atoms-atom_bytes e.label (filling e) h.words)

  pub keeps_edge-write_edge : (nodes : List (Slot Node)) (s : Slot Edge) → OnLive (LegalEdge L) s → OnLive (Attached nodes) s
      → keeps_edge L nodes (write_edge L s) ≡ true
  unfolding edge_bytes
  keeps_edge-write_edge nodes free h k =
      let z = zeros-padded (edge_length L) in keeps_edge-free L nodes (write_edge L free) (get_or-zeros (write_edge L free) 0 z) ∙ z
  keeps_edge-write_edge nodes (live e) h k =
      keeps_edge-of L nodes (write_edge L (live e))
      (record {
        state = refl;
        mark = h.mark;
        unused = refl;
        size = h.size;
        source = ap (live_at nodes) (written-source e h) ∙ k.source;
        target = ap (live_at nodes) (written-target e h) ∙ k.target;
        rest = rest;
      })
    where
      rest : zeros (drop (4 + 2 * L.width + 4 * length e.label) (write_edge L (live e))) ≡ true
      rest =
          ap zeros
          (sym (drop-drop (4 * length e.label) (4 + 2 * L.width) (write_edge L (live e)))
          ∙ ap (drop (4 * length e.label)) (drop-ends e)
          ∙ drop_at (atom_bytes e.label) (filling e) (4 * length e.label) (omega (arith, length-atom_bytes e.label)))
          ∙ zeros_of (edge_length L - length (edge_bytes L (live e)))

-- What is read where the test holds is legal.

module _ (L : Layout) (b : List ℕ) (h : Bytes b) where
  pub legal-node : keeps_node L b ≡ true → OnLive (LegalNode L) (read_node b)
  legal-node k = at (ℕ_discrete (get_or b 0 0) 0)
    where
      at : Dec (get_or b 0 0 ≡ 0) → OnLive (LegalNode L) (read_node b)
      at (yes e) = rw (read_node_free b e) tt
      at (no e) =
          let t = keeps_node-live L b e k in
          rw (read_node_live b e)
          (record {
            mark = t.mark;
            root = t.root;
            size = rw (length-atoms (get_or b 3 0) (drop 4 b)) t.size;
            words = Words-atoms (get_or b 3 0) (drop 4 b) (Bytes-drop 4 b h);
          })

  module _ (nodes : List (Slot Node)) (k : keeps_edge L nodes b ≡ true) where
    pub legal-edge : OnLive (LegalEdge L) (read_edge L b)
    legal-edge = at (ℕ_discrete (get_or b 0 0) 0)
      where
        at : Dec (get_or b 0 0 ≡ 0) → OnLive (LegalEdge L) (read_edge L b)
        at (yes e) = rw (read_edge-free L b e) tt
        at (no e) =
            let t = keeps_edge-live L nodes b e k in
            rw (read_edge-live L b e)
            (record {
              mark = t.mark;
              source = number-take_lt L.width (drop 4 b) (Bytes-drop 4 b h);
              target = number-take_lt L.width (drop (4 + L.width) b) (Bytes-drop (4 + L.width) b h);
              size = rw (length-atoms (get_or b 3 0) (drop (4 + 2 * L.width) b)) t.size;
              words = Words-atoms (get_or b 3 0) (drop (4 + 2 * L.width) b) (Bytes-drop (4 + 2 * L.width) b h);
            })

-- Legal hosts.

pub record LegalHost (L : Layout) (h : Host) : Type 0 where
  pub nodes : (i : ℕ) → OnLive (LegalNode L) (get_or h.nodes i free)
  pub edges : (i : ℕ) → OnLive (LegalEdge L) (get_or h.edges i free)
  pub ends : (i : ℕ) → OnLive (Attached h.nodes) (get_or h.edges i free)

-- what holds of each slot that was read holds of each slot of the table
OnLive-read : {A : Type 0} (P : A → Type 0) (w : ℕ) (read : List ℕ → Slot A) (bs : List ℕ)
    → ((i : ℕ) → i < length bs / w → OnLive P (read (get_or (cut w bs) i [])))
    → (i : ℕ) → OnLive P (get_or (map read (cut w bs)) i free)
OnLive-read P w read bs h i = at (dec_lt i (length bs / w))
  where
    at : Dec (i < length bs / w) → OnLive P (get_or (map read (cut w bs)) i free)
    at (yes k) = rw (get_or-map_in read (cut w bs) i [] free (rw (length-pieces w (length bs / w) bs) k)) (h i k)
    at (no k) =
        let l : length (map read (cut w bs)) ≤ i = rw (length-read w read bs) (omega arith) in
        rw (get_or-eq_default (map read (cut w bs)) free l) tt

pub legal-host : (L : Layout) (nodes edges : List ℕ) → Bytes nodes → Bytes edges → keeps_layout L nodes edges ≡ true
    → LegalHost L (record { nodes = read_nodes L nodes; edges = read_edges L edges })
legal-host L nodes edges hn he k =
    let kn = kept-node L nodes edges k in
    let ke = kept-edge L nodes edges k in
    record {
      nodes = OnLive-read (LegalNode L) (node_length L) read_node nodes (λ i j. legal-node L _ (node i j) (kn i j));
      edges = OnLive-read (LegalEdge L) (edge_length L) (read_edge L) edges (λ i j. legal-edge L _ (edge i j) host (ke i j));
      ends = layout_attached L nodes edges k;
    }
  where
    host : List (Slot Node)
    host = read_nodes L nodes

    node : (i : ℕ) → i < length nodes / node_length L → Bytes (get_or (cut (node_length L) nodes) i [])
    node i j = Bytes-pieces (node_length L) (length nodes / node_length L) nodes i hn j

    edge : (i : ℕ) → i < length edges / edge_length L → Bytes (get_or (cut (edge_length L) edges) i [])
    edge i j = Bytes-pieces (edge_length L) (length edges / edge_length L) edges i he j

module _ (L : Layout) (h : Host) (k : LegalHost L h) where
  length-node : (i : ℕ) → i < length h.nodes → length (write_node L (get_or h.nodes i free)) ≡ node_length L
  length-node i j = length-write_node L (get_or h.nodes i free) (k.nodes i)

  length-edge : (i : ℕ) → i < length h.edges → length (write_edge L (get_or h.edges i free)) ≡ edge_length L
  length-edge i j = length-write_edge L (get_or h.edges i free) (k.edges i)

  -- each table is cut into its slots, and read as it was
  pub cut-nodes : cut (node_length L) (write_nodes L h.nodes) ≡ map (write_node L) h.nodes
  cut-nodes = cut_write (node_length L) (write_node L) h.nodes free length-node (omega arith)

  pub cut-edges : cut (edge_length L) (write_edges L h.edges) ≡ map (write_edge L) h.edges
  cut-edges = cut_write (edge_length L) (write_edge L) h.edges free length-edge (omega arith)

  pub read_write_nodes : read_nodes L (write_nodes L h.nodes) ≡ h.nodes
  read_write_nodes =
      read_write (node_length L) (write_node L) h.nodes free length-node (omega arith) read_node (λ i j. read_write_node L _ (k.nodes i))

  pub read_write_edges : read_edges L (write_edges L h.edges) ≡ h.edges
  read_write_edges =
      read_write (edge_length L) (write_edge L) h.edges free length-edge (omega arith) (read_edge L) (λ i j. read_write_edge L _ (k.edges i))

  pub length-write_nodes : length (write_nodes L h.nodes) ≡ length h.nodes * node_length L
  length-write_nodes = length_write (node_length L) (write_node L) h.nodes free length-node

  pub length-write_edges : length (write_edges L h.edges) ≡ length h.edges * edge_length L
  length-write_edges = length_write (edge_length L) (write_edge L) h.edges free length-edge

  -- a legal host is written as tables that keep the layout
  pub keeps_layout_write : keeps_layout L (write_nodes L h.nodes) (write_edges L h.edges) ≡ true
  unfolding keeps_layout
  keeps_layout_write =
      both_of _ _
      (every_write (node_length L) (write_node L) h.nodes free length-node (omega arith) (keeps_node L)
      (λ i j. keeps_node-write_node L _ (k.nodes i)))
      (rw read_write_nodes
      (every_write (edge_length L) (write_edge L) h.edges free length-edge (omega arith) (keeps_edge L h.nodes)
      (λ i j. keeps_edge-write_edge L h.nodes _ (k.edges i) (k.ends i))))
