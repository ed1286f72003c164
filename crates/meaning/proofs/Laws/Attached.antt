-- The ends of edges after a rule's changes at a match: an edge that stays has both its ends, by the dangling condition, and a
-- right edge runs between interface nodes and new nodes, which are live. Rests on Layout, References, Matching, Assigned and
-- Applying, and in this folder on Slots, Applying, Interface and Room.
use Prim.Native.Nat.{ℕ, zero, suc, ◌+◌, ◌-◌, ◌<◌, ◌≤◌}
use Rattle.std.specs.Prelude.{◌≡◌, true, ◌⊎◌, get_or, set, take, drop}
use Rattle.std.proofs.Math.Path.{refl}
use Rattle.std.proofs.Common.{sym, ◌∙◌, ap, inl, inr, arith, length-drop, get_or-set_other, get_or-take, get_or-drop, get_or-append-add}
use mathlib.Core.List.{List, [], ◌∷◌, map}
use Rattle.std.proofs.Math.Option.{some}
use Rattle.std.proofs.Math.Decide.{ℕ_discrete, dec_lt}
use Rattle.std.proofs.Math.ListN.{length, get_or-append}
use Rattle.std.proofs.Math.Seq.{length-take-le}
use Rattle.meaning.specs.Basics.{every, each}
use Rattle.meaning.specs.Layout.{Slot, free, live, Node, Edge, Host, is_live, live_at, of_node, of_edge, put, state_place, read_nodes, read_edge, read_edges, keeps_edge, keeps_layout}
use Rattle.meaning.specs.Image.{RuleEdge, Rule}
use Rattle.meaning.specs.References.{rule_holds}
use Rattle.meaning.specs.Matching.{edge_in, edge_at, left_nodes, node_slot, Match}
use Rattle.meaning.specs.Assigned.{assigned}
use Rattle.meaning.specs.Applying.{label_value, right_nodes, right_edge, Right, right_side, Ledger, store, stores, lowest_free, free_slots, edges_go, nodes_change, between, add_edges, changed, applied, apply}
use Rattle.meaning.specs.Laws.Tests.{both_true, choose_eq, choose_ne, some_inj, bind_some, clauses-true}
use Rattle.meaning.specs.Laws.Every.{Every, Every-then, each-every}
use Rattle.meaning.specs.Laws.Slots.{OnLive, OnLive-set, live-set, free-set}
use Rattle.meaning.specs.Laws.Applying.{stores_append, right_side-some, apply-applied}
use Rattle.meaning.specs.Laws.Interface.{interface-left, interface-right, right-ends}
use Rattle.meaning.specs.Laws.Room.{edges_go-nodes, nodes_change-edges, after_left, after_new, changed-is, add_nodes-edges, add_edges-nodes, nodes-room}
use Rattle.meaning.proofs.Laws.Room.{add_nodes-live, add_nodes-at}
use Rattle.meaning.specs.declared.Layout.{Layout}
use Rattle.meaning.specs.Laws.Attached.{Attached, nodes_after, right_slots}

-- Tables that keep the layout.

module _ (L : Layout) (nodes : List (Slot Node)) where
  slot_attached : (b : List ℕ) → keeps_edge L nodes b ≡ true → OnLive (Attached nodes) (read_edge L b)
  unfolding keeps_edge read_edge
  slot_attached b k = at (ℕ_discrete (get_or b state_place 0) 0)
    where
      at : Dec (get_or b state_place 0 ≡ 0) → OnLive (Attached nodes) (read_edge L b)
      at (yes e) = rw (choose_eq (get_or b state_place 0) 0 _ _ e) tt
      at (no e) =
          let t = clauses-true _ (sym (choose_ne (get_or b state_place 0) 0 _ _ e) ∙ k) in
          rw (choose_ne (get_or b state_place 0) 0 _ _ e) (record { source = t 4; target = t 5 })

  slots_attached : (bs : List (List ℕ)) → every (keeps_edge L nodes) bs ≡ true → (i : ℕ)
      → OnLive (Attached nodes) (get_or (map (read_edge L) bs) i free)
  unfolding every
  slots_attached [] k i = tt
  slots_attached (b ∷ bs) k zero = slot_attached b (both_true _ _ k).0
  slots_attached (b ∷ bs) k (suc i) = slots_attached bs (both_true _ _ k).1 i

pub layout_attached : (L : Layout) (nodes edges : List ℕ) → keeps_layout L nodes edges ≡ true → (i : ℕ)
    → OnLive (Attached (read_nodes L nodes)) (get_or (read_edges L edges) i free)
unfolding keeps_layout
layout_attached L nodes edges k = slots_attached L (read_nodes L nodes) _ (both_true _ _ k).1

-- What stays where left edges and left nodes go.

-- an edge that is live once the edges at l are gone is none of them, and as it was
edges_go_stay : (l : List ℕ) (g : Ledger) (x : ℕ) → live_at (stores (map (λ x. of_edge x free) l) g).host.edges x ≡ true
    → ((j : ℕ) → j < length l → get_or l j 0 ≡ x → ⊥)
    × (get_or (stores (map (λ x. of_edge x free) l) g).host.edges x free ≡ get_or g.host.edges x free)
unfolding stores store put is_live
edges_go_stay [] g x h = (λ j k. absurd (omega arith), refl)
edges_go_stay (y ∷ l) g x h = at (ℕ_discrete x y) (edges_go_stay l (store (of_edge y free) g) x h)
  where
    after : List (Slot Edge)
    after = (stores (map (λ x. of_edge x free) l) (store (of_edge y free) g)).host.edges

    none : x ≡ y → get_or after x free ≡ get_or (set g.host.edges y free) x free → ⊥
    none q e =
        let f : get_or after x free ≡ free = e ∙ rw q (free-set g.host.edges y) in
        let z : ◌≡◌ {A = ℕ} 0 1 = cc in
        omega arith

    earlier : (x ≡ y → ⊥) → ((j : ℕ) → j < length l → get_or l j 0 ≡ x → ⊥) → (j : ℕ) → j < suc (length l) → get_or (y ∷ l) j 0 ≡ x → ⊥
    earlier q t zero k e = q (sym e)
    earlier q t (suc j) k e = t j (omega arith) e

    at : Dec (x ≡ y)
        → ((j : ℕ) → j < length l → get_or l j 0 ≡ x → ⊥) × (get_or after x free ≡ get_or (set g.host.edges y free) x free)
        → ((j : ℕ) → j < suc (length l) → get_or (y ∷ l) j 0 ≡ x → ⊥) × (get_or after x free ≡ get_or g.host.edges x free)
    at (yes q) t = absurd (none q t.1)
    at (no q) t = (earlier q t.0, t.1 ∙ get_or-set_other g.host.edges y x free free q)

-- a node that is live and does not go stays live
nodes_change_stay : (ns : List Node) (l : List ℕ) (g : Ledger) (y : ℕ) → live_at g.host.nodes y ≡ true
    → ((j : ℕ) → length ns ≤ j → j < length l → get_or l j 0 ≡ y → ⊥) → live_at (stores (nodes_change ns l) g).host.nodes y ≡ true
unfolding stores store put nodes_change
nodes_change_stay [] [] g y h k = h
nodes_change_stay (n ∷ ns) [] g y h k = h
nodes_change_stay [] (x ∷ l) g y h k =
    let e = get_or-set_other g.host.nodes x y free free (λ q. k 0 (omega arith) (omega arith) (sym q)) in
    nodes_change_stay [] l (store (of_node x free) g) y (ap is_live e ∙ h) (λ j i u. k (suc j) (omega arith) (omega arith))
nodes_change_stay (n ∷ ns) (x ∷ l) g y h k =
    nodes_change_stay ns l (store (of_node x (live n)) g) y (live-set g.host.nodes x n y h)
    (λ j i u. k (suc j) (omega arith) (omega arith))

-- What comes, where it all keeps P.

add_edges-kept : (P : Edge → Type 0) (slots : List ℕ) (l : List Edge) (g : Ledger) → Every (λ e. P (between slots e)) l
    → ((i : ℕ) → OnLive P (get_or g.host.edges i free)) → (i : ℕ) → OnLive P (get_or (add_edges slots l g).host.edges i free)
unfolding add_edges store put
add_edges-kept P slots [] g h k i = k i
add_edges-kept P slots (e ∷ l) g h k i =
    add_edges-kept P slots l (store (of_edge (lowest_free g.host.edges) (live (between slots e))) g) h.1
    (OnLive-set P g.host.edges (lowest_free g.host.edges) (live (between slots e)) h.0 k) i

module _ (r : Rule) (p : List ℕ) (right : Right) (g : Ledger) (m : Match g.host r p) (left : r.interface ≤ left_nodes r)
    (kept : r.interface ≤ length right.nodes)
    (room : length (drop r.interface right.nodes) ≤ free_slots (after_left r p right g).host.nodes)
  where
    after_is : nodes_after r p right g ≡ (after_new r p right g).ledger.host.nodes
    after_is = ap (λ (x : Ledger). x.host.nodes) (changed-is r p right g) ∙ add_edges-nodes _ right.edges _

    -- a live node that is no left node outside the interface stays live
    left-stays : (y : ℕ) → live_at g.host.nodes y ≡ true
        → ((j : ℕ) → r.interface ≤ j → j < left_nodes r → node_slot p j ≡ y → ⊥)
        → live_at (after_left r p right g).host.nodes y ≡ true
    left-stays y h k =
        let front = length-take-le r.interface right.nodes kept in
        let size = m.size in
        let all : length (take (left_nodes r) p) ≡ left_nodes r = length-take-le (left_nodes r) p (omega arith) in
        rw stores_append
        (nodes_change_stay (take r.interface right.nodes) (take (left_nodes r) p) (stores (edges_go r p) g) y
        (rw (edges_go-nodes (drop (left_nodes r) p) g) h)
        (λ j i u e. k j (omega arith) (omega arith) (sym (get_or-take (left_nodes r) p j 0 (omega arith)) ∙ e)))

    pub node_stays : (y : ℕ) → live_at g.host.nodes y ≡ true
        → ((j : ℕ) → r.interface ≤ j → j < left_nodes r → node_slot p j ≡ y → ⊥) → live_at (nodes_after r p right g) y ≡ true
    node_stays y h k =
        let l = left-stays y h k in
        rw after_is (ap is_live (add_nodes-live (drop r.interface right.nodes) (after_left r p right g) y l) ∙ l)

    -- so do both ends of an edge that stays
    module _ (attached : (i : ℕ) → OnLive (Attached g.host.nodes) (get_or g.host.edges i free)) where
      edge_stays : (x : ℕ) → OnLive (Attached (nodes_after r p right g)) (get_or (after_left r p right g).host.edges x free)
      unfolding is_live edge_in
      edge_stays x = at (get_or (after_left r p right g).host.edges x free) refl
        where
          same : (after_left r p right g).host.edges ≡ (stores (edges_go r p) g).host.edges
          same = rw stores_append (nodes_change-edges (take r.interface right.nodes) (take (left_nodes r) p) (stores (edges_go r p) g))

          at : (s : Slot Edge) → get_or (after_left r p right g).host.edges x free ≡ s → OnLive (Attached (nodes_after r p right g)) s
          at free q = tt
          at (live e) q =
              let f : get_or (stores (edges_go r p) g).host.edges x free ≡ live e = rw same at q in
              let t = edges_go_stay (drop (left_nodes r) p) g x (rw f) in
              let was : get_or g.host.edges x free ≡ live e = sym t.1 ∙ f in
              let ends : Attached g.host.nodes e = rw was at (attached x) in
              record {
                source = node_stays e.source ends.source (λ j i u v. stays was t.0 j i u (inl (rw was (sym v))));
                target = node_stays e.target ends.target (λ j i u v. stays was t.0 j i u (inr (rw was (sym v))));
              }
            where
              stays : get_or g.host.edges x free ≡ live e
                  → ((j : ℕ) → j < length (drop (left_nodes r) p) → get_or (drop (left_nodes r) p) j 0 ≡ x → ⊥)
                  → (j : ℕ) → r.interface ≤ j → j < left_nodes r
                  → ((edge_at g.host x).source ≡ node_slot p j) ⊎ ((edge_at g.host x).target ≡ node_slot p j) → ⊥
              stays was not j i u v =
                  let d = m.dangling x j (rw was) i u v in
                  let size = m.size in
                  let l = length-drop (left_nodes r) p in
                  not d.0 (omega (arith, d.1)) (get_or-drop (left_nodes r) p d.0 0 ∙ d.2)

    -- the slots of the right nodes are live
    pub slot-live : (i : ℕ) → i < length right.nodes → live_at (nodes_after r p right g) (get_or (right_slots r p right g) i 0) ≡ true
    unfolding is_live
    slot-live i h = at (dec_lt i r.interface)
      where
        size : length (take r.interface p) ≡ r.interface
        size = let k = m.size in length-take-le r.interface p (omega arith)

        at : Dec (i < r.interface) → live_at (nodes_after r p right g) (get_or (right_slots r p right g) i 0) ≡ true
        at (yes k) =
            let e : get_or (right_slots r p right g) i 0 ≡ node_slot p i =
            get_or-append (take r.interface p) (after_new r p right g).slots 0 i (omega (arith, size)) ∙ get_or-take r.interface p i 0 k in
            rw e
            (node_stays (node_slot p i) (m.nodes_live i (omega arith)) (λ j b u q. m.nodes_apart i j (omega arith) u (sym q)))
        at (no k) =
            let n : ℕ = i - r.interface in
            let f : length (take r.interface p) + n ≡ i = omega (arith, size) in
            let e : get_or (right_slots r p right g) i 0 ≡ get_or (after_new r p right g).slots n 0 =
            rw f at (get_or-append-add (take r.interface p) (after_new r p right g).slots n 0) in
            let l = length-drop r.interface right.nodes in
            let d : Node = record { mark = 0; root = 0; label = [] } in
            rw (after_is, e, add_nodes-at (drop r.interface right.nodes) (after_left r p right g) d room n (omega arith))

    -- and so are the ends of the right edges between them
    pub between_attached : (e : Edge) → (e.source < length right.nodes) × (e.target < length right.nodes)
        → Attached (nodes_after r p right g) (between (right_slots r p right g) e)
    between_attached e h = record { source = slot-live e.source h.0; target = slot-live e.target h.1 }

    -- every edge in the end has both its ends
    pub all_attached : ((i : ℕ) → OnLive (Attached g.host.nodes) (get_or g.host.edges i free))
        → Every (λ e. (e.source < length right.nodes) × (e.target < length right.nodes)) right.edges
        → (i : ℕ) → OnLive (Attached (nodes_after r p right g)) (get_or (changed r p right g).host.edges i free)
    all_attached h k i =
        rw (changed-is r p right g)
        (add_edges-kept (Attached (nodes_after r p right g)) (right_slots r p right g) right.edges (after_new r p right g).ledger
        (Every-then _ _ between_attached right.edges k) (rw add_nodes-edges (edge_stays h)) i)

-- A rule whose references hold, applied at a match.

-- the ends of a right edge are right nodes
module _ (most : ℕ) (h : Host) (r : Rule) (holds : rule_holds r ≡ true) (p : List ℕ) where
  edge-ends : (n : ℕ) (e : RuleEdge) (a : Edge) → (e.source < n) × (e.target < n) → right_edge most (assigned h r p) e ≡ some a
      → (a.source < n) × (a.target < n)
  unfolding right_edge
  edge-ends n e a k q = let t = bind_some (label_value most (assigned h r p) e.label) _ a q in rw (some_inj a _ (sym t.2)) k

  value-ends : (right : Right) → right_side most h r p ≡ some right
      → Every (λ e. (e.source < length right.nodes) × (e.target < length right.nodes)) right.edges
  unfolding right_side
  value-ends right q =
      let n : ℕ = length r.right.nodes in
      let t = bind_some (right_nodes most r (assigned h r p) h p 0 r.right.nodes) _ right q in
      let u = bind_some (each (right_edge most (assigned h r p)) r.right.edges) _ right t.2 in
      rw ((right_side-some most h r p right q).0, some_inj right (record { nodes = t.0; edges = u.0 }) (sym u.2))
      (each-every _ (λ e. (e.source < n) × (e.target < n)) _ (edge-ends n) r.right.edges u.0 (right-ends r holds) u.1)

-- every edge that it leaves has both its ends, where every edge had them
pub applied_attached : (most room : ℕ) (r : Rule) (p : List ℕ) (g g' : Ledger) → rule_holds r ≡ true → Match g.host r p
    → ((i : ℕ) → OnLive (Attached g.host.nodes) (get_or g.host.edges i free)) → apply most room r p g ≡ applied g'
    → (i : ℕ) → OnLive (Attached g'.host.nodes) (get_or g'.host.edges i free)
applied_attached most room r p g g' holds m ends q i =
    let a = apply-applied most room r p g g' q in
    let s = right_side-some most g.host r p a.right a.values in
    rw a.changes
    (all_attached r p a.right g m (interface-left r holds) (omega (arith, interface-right r holds, s.0))
    (nodes-room most room r p g g' m a) ends (value-ends most g.host r holds p a.right a.values) i)
