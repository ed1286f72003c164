-- Laws of slots in hand: where a slot of a legal host's tables lies, what its bytes say of the node or the edge that it holds,
-- and its label among them. The bytes of a free slot are zeros, and say what a free slot has. Rests on Graph, on slots' States and
-- Comparing and on laws' Pieces and Layout.
use Prim.Native.Nat.{ℕ, zero, suc, ◌+◌, ◌*◌, ◌/◌, ◌^◌, ◌<◌, ◌≤◌}
use mathlib.Core.Path.{◌≡◌, refl, sym, ◌∙◌, ap}
use mathlib.Core.List.{List, [], ◌∷◌, map}
use mathlib.Core.Bool.{true}
use native.Mathlib.Nat.{zero-mul}
use native.Mathlib.Omega.{arith}
use native.Mathlib.Decide.{ℕ_discrete}
use lib.ListN.{length, get_or, take, drop, length-drop}
use lib.Seq.{get_or-drop}
use Rattle.meaning.specs.Numbers.{number}
use Rattle.meaning.specs.Layout.{Slot, free, is_live, Node, Sized, state_place, mark_place, root_place, length_place, head_length, atom_length, most_atoms, source_place, target_place, edge_atoms, node_length, edge_length, pieces, cut, read_atoms, read_node, read_edge, read_nodes, read_edges, keeps_node, keeps_edge}
use Rattle.meaning.specs.Matching.{node_in, edge_in}
use Rattle.laws.specs.Pieces.{get_or-map_in, length-pieces, length-read}
use Rattle.laws.specs.Layout.{get_or-zeros, length-atoms, read_node_free, read_node_live, keeps_node-free, keeps_node-live, read_edge-free, read_edge-live, keeps_edge-free, keeps_edge-live, kept-node, kept-edge}
use Rattle.meaning.specs.declared.Layout.{Layout}
use Rattle.slots.specs.Laid.{laid}
use Rattle.slots.specs.Comparing.{laid-front}
use Rattle.slots.specs.Slots.{label_end}
use Rattle.slots.specs.States.{state-node, state-edge}
use Rattle.graph.specs.Graph.{Legal, NodeBytes, EdgeBytes}

-- A table's slots, by the length of one that the layout holds.

module _ {A : Type 0} (read : List ℕ → A) {v w : ℕ} (e : v ≡ w) (bs : List ℕ) where
  slots_read : length bs / v ≡ length (map read (cut w bs))
  slots_read = rw e (sym (length-read w read bs))

  slot_read : (x : ℕ) (d : A) → x < length (map read (cut w bs)) → get_or (map read (cut w bs)) x d ≡ read (get_or (cut v bs) x [])
  slot_read x d h =
      let k : x < length (cut w bs) = rw (length-pieces w (length bs / w) bs) (omega (arith, length-read w read bs)) in
      rw e (get_or-map_in read (cut w bs) x [] d k)

module _ {L : Layout} (h : Sized L) where
  pub node-slots : (bs : List ℕ) → length bs / L.node ≡ length (read_nodes L bs)
  node-slots bs = slots_read read_node h.node bs

  pub edge-slots : (bs : List ℕ) → length bs / L.edge ≡ length (read_edges L bs)
  edge-slots bs = slots_read (read_edge L) h.edge bs

-- What zeros say.

abbrev Zero : List ℕ → Type 0
Zero l = (i : ℕ) → get_or l i 0 ≡ 0

number-zero : (w : ℕ) (l : List ℕ) → Zero l → number (take w l) ≡ 0
unfolding number
number-zero zero l h = refl
number-zero (suc w) [] h = refl
number-zero (suc w) (a ∷ l) h = rw (h 0, number-zero w l (λ i. h (suc i)), zero-mul (256 ^ length (take w l)))

end-zero : (w n : ℕ) (l : List ℕ) → Zero l → number (take w (drop n l)) ≡ 0
end-zero w n l h = number-zero w (drop n l) (λ i. get_or-drop n l i 0 ∙ h (n + i))

label-zero : (n : ℕ) (l : List ℕ) → n ≡ 0 → read_atoms n l ≡ []
unfolding pieces
label-zero n l e = rw e

-- Nodes.

kept-node-bytes : (L : Layout) (b : List ℕ) → keeps_node L b ≡ true → NodeBytes L b (read_node b)
unfolding node_in
kept-node-bytes L b k = at (ℕ_discrete (get_or b state_place 0) 0)
  where
    at : Dec (get_or b state_place 0 ≡ 0) → NodeBytes L b (read_node b)
    at (yes e) =
        let q = read_node_free b e in
        let z : Zero b = λ i. get_or-zeros b i (sym (keeps_node-free L b e) ∙ k) in
        rw q
        (record {
          state = sym (state-node b) ∙ ap is_live q;
          mark = z mark_place;
          root = z root_place;
          size = omega (arith, z length_place);
          label = label-zero (get_or b length_place 0) (drop head_length b) (z length_place);
        })
    at (no e) =
        let q = read_node_live b e in
        rw q
        (record {
          state = sym (state-node b) ∙ ap is_live q;
          mark = refl;
          root = refl;
          size = (keeps_node-live L b e k).size;
          label = refl;
        })

-- Edges.

kept-edge-bytes : (L : Layout) (nodes : List (Slot Node)) (b : List ℕ) → keeps_edge L nodes b ≡ true → EdgeBytes L b (read_edge L b)
unfolding edge_in
kept-edge-bytes L nodes b k = at (ℕ_discrete (get_or b state_place 0) 0)
  where
    at : Dec (get_or b state_place 0 ≡ 0) → EdgeBytes L b (read_edge L b)
    at (yes e) =
        let q = read_edge-free L b e in
        let z : Zero b = λ i. get_or-zeros b i (sym (keeps_edge-free L nodes b e) ∙ k) in
        rw q
        (record {
          state = sym (state-edge L b) ∙ ap is_live q;
          mark = z mark_place;
          source = end-zero L.width (source_place L) b z;
          target = end-zero L.width (target_place L) b z;
          size = omega (arith, z length_place);
          label = label-zero (get_or b length_place 0) (drop (edge_atoms L) b) (z length_place);
        })
    at (no e) =
        let q = read_edge-live L b e in
        rw q
        (record {
          state = sym (state-edge L b) ∙ ap is_live q;
          mark = refl;
          source = refl;
          target = refl;
          size = (keeps_edge-live L nodes b e k).size;
          label = refl;
        })

-- Slots of a legal host, in whatever list holds their bytes.

module _ {L : Layout} {nodes edges : List ℕ} (h : Legal L nodes edges) (x : ℕ) where
  pub node-there : x < length (read_nodes L nodes) → x < length nodes / L.node
  node-there i = rw (node-slots h.sized nodes) i

  pub edge-there : x < length (read_edges L edges) → x < length edges / L.edge
  edge-there i = rw (edge-slots h.sized edges) i

  pub node-bytes : x < length (read_nodes L nodes) → (b : List ℕ) → b ≡ get_or (cut L.node nodes) x []
      → NodeBytes L b (get_or (read_nodes L nodes) x free)
  node-bytes i b e =
      let j : x < length nodes / node_length L = rw (← h.sized.node) (node-there i) in
      let q = e ∙ ap (λ (w : ℕ). get_or (cut w nodes) x []) h.sized.node in
      let k : keeps_node L b ≡ true = rw q (kept-node L nodes edges h.keeps x j) in
      rw (slot_read read_node h.sized.node nodes x free i, ← e) (kept-node-bytes L b k)

  pub edge-bytes : x < length (read_edges L edges) → (b : List ℕ) → b ≡ get_or (cut L.edge edges) x []
      → EdgeBytes L b (get_or (read_edges L edges) x free)
  edge-bytes i b e =
      let j : x < length edges / edge_length L = rw (← h.sized.edge) (edge-there i) in
      let q = e ∙ ap (λ (w : ℕ). get_or (cut w edges) x []) h.sized.edge in
      let k : keeps_edge L (read_nodes L nodes) b ≡ true = rw q (kept-edge L nodes edges h.keeps x j) in
      rw (slot_read (read_edge L) h.sized.edge edges x free i, ← e) (kept-edge-bytes L (read_nodes L nodes) b k)

-- A slot's label, in its own bytes.

pub label-lies : (b : List ℕ) (start : ℕ) {r m : List ℕ} → r ≡ take (atom_length * get_or b length_place 0) (drop start b)
    → read_atoms (get_or b length_place 0) (drop start b) ≡ m → label_end start b ≤ length b → get_or b length_place 0 ≤ most_atoms → (laid r ≡ m) × (length (laid r) ≤ most_atoms)
label-lies b start {r} {m} q e inside few =
    let n = get_or b length_place 0 in
    let d : laid r ≡ m = rw q (laid-front n (drop start b) (omega (arith, length-drop start b)) ∙ e) in
    (d, rw d (omega (arith, length-atoms n (drop start b), ap length e)))
