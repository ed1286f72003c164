-- Laws of journal records: how one is written and read, what the test of one says, and putting them back from the last on.
use Prim.Native.Nat.{ℕ, suc, ◌+◌, ◌-◌, ◌*◌, ◌/◌, ◌<◌, ◌≤◌}
use mathlib.Core.Path.{◌≡◌, refl, sym, ◌∙◌, ap}
use mathlib.Core.List.{List, [], ◌∷◌, ◌++◌, map, map-append, reverse-append, append_assoc}
use mathlib.Core.Bool.{Bool, true, false}
use mathlib.Core.Logic.{◌⊎◌, inl, inr}
use native.Mathlib.Omega.{arith}
use native.Mathlib.Nat.{add-mul, suc-mul, mul-le-mul_right}
use borrow.Author.Tests.{ne_eqb, le-leb, lt-leb}
use borrow.Rule.Slice.PartMut.{put_mid}
use lib.Dec.{eqb, ltb}
use lib.ListN.{length, get_or, set, take, drop, replicate, length-append, length-set, length-take, length-drop, length-replicate}
use lib.Seq.{drop-cons, drop-drop, drop-append-add}
use Rattle.meaning.specs.Basics.{both, either, clauses, every, zeros, padded}
use Rattle.meaning.specs.Numbers.{bytes}
use Rattle.meaning.specs.Layout.{Sized, Tables, of_node, of_edge, put, undone, node_length, edge_length, record_length, pieces, cut, slot_of, read_record, keeps_record}
use Rattle.meaning.specs.Calls.{keeps_records}
use Rattle.meaning.specs.Laws.Tests.{both_yes, both-no, both-last, every_true, choose_eq, choose_ne}
use Rattle.laws.specs.Numbers.{length-bytes}
use Rattle.laws.specs.Pieces.{length-pieces, get_or-pieces, pieces-suc, stored, length-stored, slot-within}
use Rattle.laws.specs.Records.{keeps_record-true}
use Rattle.meaning.specs.declared.Layout.{Layout}
use Rattle.slots.specs.Parts.{put_mid_lem, zeros-split}
use Rattle.journal.specs.Journal.{tables_of, behind_slots, records_from, put_back}

-- Writing one.

front_kind : (kind n m : ℕ) → n ≡ suc m → set (replicate n 0) 0 kind ≡ kind ∷ replicate m 0
front_kind kind n m e = rw e

pub record_bytes_lem : (width edge kind i : ℕ) (before : List ℕ) → 1 ≤ width → length before ≤ edge
    → put_mid (2 * width) (2 * width + length before - 2 * width)
    (put_mid width (2 * width - width) (set (replicate (2 * width + edge) 0) 0 kind) (bytes width i)) before
    ≡ padded width (kind ∷ []) ++ bytes width i ++ padded edge before
record_bytes_lem width edge kind i before h k =
    let a : List ℕ = kind ∷ replicate (width - 1) 0 in
    let n : List ℕ = bytes width i in
    let c : List ℕ = replicate (edge - length before) 0 in
    let zero-front : set (replicate (2 * width + edge) 0) 0 kind ≡ a ++ (replicate width 0 ++ replicate edge 0) =
    front_kind kind (2 * width + edge) (width - 1 + (width + edge)) (omega arith)
    ∙ ap (λ (l : List ℕ). kind ∷ l) (zeros-split (width - 1 + (width + edge)) (width - 1) (width + edge) refl
    ∙ ap (λ (l : List ℕ). replicate (width - 1) 0 ++ l) (zeros-split (width + edge) width edge refl)) in
    let la : length a ≡ width = omega (arith, length-replicate {A = ℕ} (width - 1) 0) in
    let ln : length (a ++ n) ≡ 2 * width = simp (length-append, length-bytes) (omega arith) in
    ap (λ (l : List ℕ). put_mid (2 * width) (2 * width + length before - 2 * width) l before)
    (ap (λ (l : List ℕ). put_mid width (2 * width - width) l n) zero-front
    ∙ put_mid_lem a (replicate width 0) (replicate edge 0) n width (2 * width - width) la (length-replicate {A = ℕ} width 0 ∙ omega arith)
    ∙ sym (append_assoc a n (replicate edge 0))
    ∙ ap (λ (l : List ℕ). a ++ n ++ l) (zeros-split edge (length before) (edge - length before) (omega arith)))
    ∙ put_mid_lem (a ++ n) (replicate (length before) 0) c before (2 * width) (2 * width + length before - 2 * width) ln
    (length-replicate {A = ℕ} (length before) 0 ∙ omega arith)

-- what the steps leave, by what each ensures
pub record_put : (width edge kind i : ℕ) (to zeroed numbered copied old : List ℕ) → 1 ≤ width → length old ≤ edge → length to ≡ 2 * width + edge
    → zeroed ≡ replicate (length to) 0
    → numbered ≡ bytes (length (take (2 * width - width) (drop width (set zeroed 0 kind)))) i
    → copied ≡ old
    → put_mid (2 * width) (2 * width + length old - 2 * width) (put_mid width (2 * width - width) (set zeroed 0 kind) numbered) copied
    ≡ padded width (kind ∷ []) ++ bytes width i ++ padded edge old
record_put width edge kind i to zeroed numbered copied old h k t z n o =
    let e : length (take (2 * width - width) (drop width (set zeroed 0 kind))) ≡ width =
    simp (length-take, length-drop, length-set) (omega (arith, ap length z ∙ length-replicate {A = ℕ} (length to) 0)) in
    rw (o, n, e, z, t) (record_bytes_lem width edge kind i old h k)

-- What the test of a record says.

both-none : (t : Bool) → false ≡ both t false
unfolding both
both-none true = refl
both-none false = refl

either-last : (t : Bool) → t ≡ either t false
unfolding either
either-last true = refl
either-last false = refl

pub filled-byte : (b : List ℕ) → 2 ≤ length b → eqb (get_or b 1 0) 0 ≡ zeros (take 1 (drop 1 b))
unfolding zeros
filled-byte b h = rw (drop-cons b 1 0 h) (both-last (eqb (get_or b 1 0) 0))

module _ (L : Layout) (n e : ℕ) (b : List ℕ) where
  pub record_filling : zeros (take (L.width - 1) (drop 1 b)) ≡ false → false ≡ keeps_record L n e b
  unfolding keeps_record clauses
  record_filling z = rw (z, both-no false true refl) (both-none _)

  module _ (z : zeros (take (L.width - 1) (drop 1 b)) ≡ true) where
    pub record_node : get_or b 0 0 ≡ 1 → ltb (slot_of L b) n ≡ keeps_record L n e b
    unfolding keeps_record clauses
    record_node k = rw (k, z, both_yes true true refl, both_yes true (ltb (slot_of L b) n) refl, both-no false (ltb (slot_of L b) e) refl) (either-last _ ∙ both-last _)

    pub record_edge : get_or b 0 0 ≡ 2 → ltb (slot_of L b) e ≡ keeps_record L n e b
    unfolding keeps_record clauses either
    record_edge k = rw (k, z, both_yes true true refl, both_yes true (ltb (slot_of L b) e) refl, both-no false (ltb (slot_of L b) n) refl) (both-last _)

    pub record_kind : (get_or b 0 0 ≡ 1 → ⊥) → (get_or b 0 0 ≡ 2 → ⊥) → false ≡ keeps_record L n e b
    unfolding keeps_record clauses either both
    record_kind j k = rw (ne_eqb (get_or b 0 0) 1 j, ne_eqb (get_or b 0 0) 2 k)

  -- a record that keeps to its table names a slot of it
  module _ (t : keeps_record L n e b ≡ true) where
    names-node : get_or b 0 0 ≡ 1 → slot_of L b < n
    names-node k = at (keeps_record-true L b n e t)
      where
        at : ((get_or b 0 0 ≡ 1) × (slot_of L b < n)) ⊎ ((get_or b 0 0 ≡ 2) × (slot_of L b < e)) → slot_of L b < n
        at (inl h) = h.1
        at (inr h) = absurd (omega (arith, h.0))

    names-edge : (get_or b 0 0 ≡ 1 → ⊥) → slot_of L b < e
    names-edge k = at (keeps_record-true L b n e t)
      where
        at : ((get_or b 0 0 ≡ 1) × (slot_of L b < n)) ⊎ ((get_or b 0 0 ≡ 2) × (slot_of L b < e)) → slot_of L b < e
        at (inl h) = absurd (k h.0)
        at (inr h) = h.1

-- Putting one back.

pub node-there : (L : Layout) (n e i : ℕ) (b : List ℕ) → L.node ≡ node_length L → keeps_record L (n / node_length L) (e / edge_length L) b ≡ true
    → get_or b 0 0 ≡ 1 → i ≡ slot_of L b → i < n / L.node
node-there L n e i b w t k q = rw (q, w) (names-node L (n / node_length L) (e / edge_length L) b t k)

pub edge-there : (L : Layout) (n e i : ℕ) (b : List ℕ) → L.edge ≡ edge_length L → keeps_record L (n / node_length L) (e / edge_length L) b ≡ true
    → (get_or b 0 0 ≡ 1 → ⊥) → i ≡ slot_of L b → i < e / L.edge
edge-there L n e i b w t k q = rw (q, w) (names-edge L (n / node_length L) (e / edge_length L) b t k)

module _ (L : Layout) (b : List ℕ) where
  pub put-node : (nodes nodes' edges from : List ℕ) (i : ℕ) → L.node ≡ node_length L → get_or b 0 0 ≡ 1 → i ≡ slot_of L b
      → from ≡ take (2 * L.width + L.node - 2 * L.width) (drop (2 * L.width) b)
      → cut L.node nodes' ≡ set (cut L.node nodes) i from
      → tables_of L nodes' edges ≡ put (read_record L b) (tables_of L nodes edges)
  unfolding read_record put
  put-node nodes nodes' edges from i w k e f h =
      let q : 2 * L.width + L.node - 2 * L.width ≡ L.node = omega arith in
      rw (choose_eq (get_or b 0 0) 1 (of_node (slot_of L b) (take (node_length L) (drop (2 * L.width) b))) (of_edge (slot_of L b) (take (edge_length L) (drop (2 * L.width) b))) k)
      (ap (λ (l : List (List ℕ)). record { nodes = l; edges = cut (edge_length L) edges })
      (ap (λ (n : ℕ). cut n nodes') (sym w) ∙ h ∙ rw (e, f, q, w)))

  pub put-edge : (nodes edges edges' from : List ℕ) (i : ℕ) → L.edge ≡ edge_length L → (get_or b 0 0 ≡ 1 → ⊥) → i ≡ slot_of L b
      → from ≡ take (2 * L.width + L.edge - 2 * L.width) (drop (2 * L.width) b)
      → cut L.edge edges' ≡ set (cut L.edge edges) i from
      → tables_of L nodes edges' ≡ put (read_record L b) (tables_of L nodes edges)
  unfolding read_record put
  put-edge nodes edges edges' from i w k e f h =
      let q : 2 * L.width + L.edge - 2 * L.width ≡ L.edge = omega arith in
      rw (choose_ne (get_or b 0 0) 1 (of_node (slot_of L b) (take (node_length L) (drop (2 * L.width) b))) (of_edge (slot_of L b) (take (edge_length L) (drop (2 * L.width) b))) k)
      (ap (λ (l : List (List ℕ)). record { nodes = cut (node_length L) nodes; edges = l })
      (ap (λ (n : ℕ). cut n edges') (sym w) ∙ h ∙ rw (e, f, q, w)))

-- a slot that is stored leaves what stands behind the slots
pub rest-stored : (w v i : ℕ) (b table table' : List ℕ) → w ≡ v → i < length table / w → length b ≡ w
    → table' ≡ stored w i b table → behind_slots v table' ≡ behind_slots v table
rest-stored w v i b table table' v-is h k e =
    let n = length table / w * w in
    let m : i * w + w ≤ n = omega (arith, suc-mul i w, mul-le-mul_right {m = suc i} {n = length table / w} w h) in
    let front : List ℕ = take (i * w) table ++ b in
    let l : length front ≡ i * w + w = simp (length-append, length-take) (omega (arith, slot-within w i (length table) h)) in
    let d : length front + (n - (i * w + w)) ≡ n = omega (arith, l) in
    let f : i * w + w + (n - (i * w + w)) ≡ n = omega arith in
    rw (← v-is, e, length-stored w i b table (slot-within w i (length table) h) k)
    (ap (λ (x : ℕ). drop x (stored w i b table)) (sym d)
    ∙ drop-append-add front (drop (i * w + w) table) (n - (i * w + w))
    ∙ drop-drop (n - (i * w + w)) (i * w + w) table
    ∙ ap (λ (x : ℕ). drop x table) f)

-- Records one after the other.

-- record number u, counted from an earlier one
piece_at : (w mark u : ℕ) (bs : List ℕ) → mark ≤ u → u < length bs / w
    → take w (drop ((u - mark) * w) (drop (mark * w) bs)) ≡ get_or (cut w bs) u []
piece_at w mark u bs h k =
    let e : mark * w + (u - mark) * w ≡ u * w = sym (add-mul mark (u - mark) w) ∙ ap (λ (n : ℕ). n * w) (omega arith) in
    rw (drop-drop ((u - mark) * w) (mark * w) bs, e) (sym (get_or-pieces w (length bs / w) bs u k))

pub counted-at : (w n u : ℕ) (bs : List ℕ) → u < n → n ≤ length bs / w → get_or (cut w bs) u [] ≡ get_or (pieces w n bs) u []
counted-at w n u bs h k = get_or-pieces w (length bs / w) bs u (omega arith) ∙ sym (get_or-pieces w n bs u h)

module _ (L : Layout) (mark : ℕ) (journal : List ℕ) where
  pub kept_at : (f : List ℕ → Bool) (used u : ℕ) → every f (records_from L mark used journal) ≡ true → mark ≤ u → u < used
      → used ≤ length journal / record_length L → f (get_or (cut (record_length L) journal) u []) ≡ true
  kept_at f used u e h k m =
      let w = record_length L in
      let t = every_true f (records_from L mark used journal) [] e (u - mark) (rw (length-pieces w (used - mark) (drop (mark * w) journal)) (omega arith)) in
      let q : get_or (records_from L mark used journal) (u - mark) [] ≡ get_or (cut w journal) u [] =
      get_or-pieces w (used - mark) (drop (mark * w) journal) (u - mark) (omega arith) ∙ piece_at w mark u journal h (omega arith) in
      ap f (sym q) ∙ t

  pub back_more : (u : ℕ) (t : Tables (List ℕ) (List ℕ)) → mark < u → u ≤ length journal / record_length L
      → put_back L mark u journal t ≡ put_back L mark (u - 1) journal (put (read_record L (get_or (cut (record_length L) journal) (u - 1) [])) t)
  unfolding put_back undone
  back_more u t h k =
      let w = record_length L in
      let e : u - mark ≡ suc (u - 1 - mark) = omega arith in
      rw (e, pieces-suc w (u - 1 - mark) (drop (mark * w) journal), piece_at w mark (u - 1) journal (omega arith) (omega arith), map-append (read_record L) (pieces w (u - 1 - mark) (drop (mark * w) journal)) (get_or (cut w journal) (u - 1) [] ∷ []), reverse-append (map (read_record L) (pieces w (u - 1 - mark) (drop (mark * w) journal))) (read_record L (get_or (cut w journal) (u - 1) []) ∷ []))

  pub back_none : (u : ℕ) (t : Tables (List ℕ) (List ℕ)) → u ≤ mark → put_back L mark u journal t ≡ t
  unfolding put_back undone pieces
  back_none u t h = let e : u - mark ≡ 0 = omega arith in rw e

-- The test of all counted records.

module _ (L : Layout) (z : Sized L) (nodes edges journal : List ℕ) (count : ℕ) where
  pub records-over : length journal / L.change < count → false ≡ keeps_records L nodes edges journal count
  unfolding keeps_records
  records-over h = sym (both-no _ _ (lt-leb _ _ (rw z.change at h)))

  pub records-kept : (t : Bool) → count ≤ length journal / L.change
      → every (keeps_record L (length nodes / L.node) (length edges / L.edge)) (pieces L.change count journal) ≡ t
      → t ≡ keeps_records L nodes edges journal count
  unfolding keeps_records keeps_record
  records-kept t h e =
      sym (both_yes _ _ (le-leb _ _ (rw z.change at h)) ∙ (rw (z.change, z.node, z.edge) at e))
