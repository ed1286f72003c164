-- The host after an application is step 4 of Definition 2.7: what stays keeps its slot, what comes is in a slot of its own, and
-- ends and labels are as (c) to (e) say. Rests on Application/Matching, Application/Tables and Application/Values.
use Rattle.std.specs.Prelude.{ℕ, zero, suc, ◌+◌, ◌-◌, ◌<◌, ◌≤◌, ◌≡◌, refl, ◌⊎◌, Bool, false, List, [], ◌∷◌, ◌++◌, map, eqb, take, drop}
use Rattle.std.proofs.Common.{sym, ◌∙◌, length-drop, get_or-take, get_or-drop, get_or-append-add}
use Rattle.std.proofs.Math.Path.{ap}
use Rattle.std.proofs.Math.Logic.{inl, inr}
use Rattle.std.proofs.Math.Bool.{true}
use Rattle.std.proofs.Math.Option.{some}
use native.Mathlib.Omega.{arith}
use Rattle.std.proofs.Math.Decide.{dec_lt}
use Rattle.std.proofs.Math.ListN.{length, get_or, length-map, get_or-append}
use Rattle.std.proofs.Math.Seq.{length-take-le}
use Rattle.meaning.specs.Layout.{Slot, free, live, Node, Edge, Host, is_live, live_at}
use Rattle.meaning.specs.Image.{Rule}
use Rattle.meaning.specs.Tags.{any_mark}
use Rattle.meaning.specs.Basics.{choose, both}
use Rattle.meaning.specs.Matching.{node_in, edge_in, node_at, left_node, left_nodes, left_edges, node_slot, edge_slot, Match}
use Rattle.meaning.specs.Assigned.{assigned}
use Rattle.meaning.specs.Applying.{root_taken, Right, right_side, Ledger, stores, free_slots, edges_go, between, changed, applied, apply}
use Rattle.meaning.specs.Laws.Tests.{choose_lt, choose_le, choose_false}
use Rattle.laws.specs.Pieces.{get_or-map_in}
use Rattle.laws.specs.FirstMatch.{node-inside, edge-inside}
use Rattle.meaning.specs.Laws.Applying.{stores_append, right_side-some, apply-applied}
use Rattle.meaning.specs.Laws.Room.{edges_go-nodes, nodes_change-edges, after_left, after_new, changed-is, add_nodes-edges, add_edges-nodes, nodes-room, edges_room}
use Rattle.laws.specs.Layout.{Words}
use Rattle.meaning.specs.Laws.Interface.{interface-left, interface-right}
use Rattle.laws.specs.Values.{LegalRule, new-marked}
use Rattle.published.specs.Graphs.{graph_of}
use Rattle.published.specs.RuleApplication.{node_of, edge_of, Premorphism, StaysNode, StaysEdge, Union, root_from, placed, Constructed}
use Rattle.published.specs.Application.Matching.{premorphism}
use Rattle.published.specs.Application.Tables.{overwritten, filled, places, overwritten-other, overwritten-at, not_free, filled_live, filled_at, places-free, places-apart, filled-back, find, edges_go-is, slot_after, nodes_change-is, add_nodes-is, add_nodes-places, add_edges-is}
use Rattle.published.specs.Application.Values.{no_node, no_edge}
use Rattle.published.proofs.Application.Values.{node-value, edge-value-at}

-- The tables once the left side is gone, the slots of new nodes, of right nodes and of right edges, and the tables in the end.

mid_nodes : Rule → List ℕ → Right → Host → List (Slot Node)
mid_nodes r p right h = overwritten (slot_after (take r.interface right.nodes)) (take (left_nodes r) p) h.nodes

mid_edges : Rule → List ℕ → Host → List (Slot Edge)
mid_edges r p h = overwritten (λ i. free) (drop (left_nodes r) p) h.edges

new_slots : Rule → List ℕ → Right → Host → List ℕ
new_slots r p right h = places (drop r.interface right.nodes) (mid_nodes r p right h)

right_slots : Rule → List ℕ → Right → Host → List ℕ
right_slots r p right h = take r.interface p ++ new_slots r p right h

new_edges : Rule → List ℕ → Right → Host → List Edge
new_edges r p right h = map (between (right_slots r p right h)) right.edges

edge_slots : Rule → List ℕ → Right → Host → List ℕ
edge_slots r p right h = places (new_edges r p right h) (mid_edges r p h)

after : Rule → List ℕ → Right → Host → Host
after r p right h =
    record {
      nodes = filled (drop r.interface right.nodes) (mid_nodes r p right h);
      edges = filled (new_edges r p right h) (mid_edges r p h);
    }

module _ (r : Rule) (p : List ℕ) (right : Right) (g : Ledger) where
  mid_nodes_lem : (after_left r p right g).host.nodes ≡ mid_nodes r p right g.host
  unfolding mid_nodes
  mid_nodes_lem =
      rw stores_append
      (nodes_change-is (take r.interface right.nodes) (take (left_nodes r) p) (stores (edges_go r p) g)
      ∙ ap (overwritten (slot_after (take r.interface right.nodes)) (take (left_nodes r) p)) (edges_go-nodes (drop (left_nodes r) p) g))

  mid_edges_lem : (after_left r p right g).host.edges ≡ mid_edges r p g.host
  unfolding mid_edges
  mid_edges_lem =
      rw stores_append
      (nodes_change-edges (take r.interface right.nodes) (take (left_nodes r) p) (stores (edges_go r p) g)
      ∙ edges_go-is (drop (left_nodes r) p) g)

  new-slots : (after_new r p right g).slots ≡ new_slots r p right g.host
  unfolding new_slots
  new-slots =
      add_nodes-places (drop r.interface right.nodes) (after_left r p right g)
      ∙ ap (places (drop r.interface right.nodes)) mid_nodes_lem

  final_nodes : (changed r p right g).host.nodes ≡ (after r p right g.host).nodes
  unfolding after
  final_nodes =
      rw (changed-is r p right g)
      (add_edges-nodes _ right.edges _ ∙ add_nodes-is (drop r.interface right.nodes) (after_left r p right g)
      ∙ ap (filled (drop r.interface right.nodes)) mid_nodes_lem)

  final_edges : (changed r p right g).host.edges ≡ (after r p right g.host).edges
  unfolding after new_edges right_slots
  final_edges =
      rw (changed-is r p right g)
      (add_edges-is (take r.interface p ++ (after_new r p right g).slots) right.edges (after_new r p right g).ledger
      ∙ rw (new-slots, add_nodes-edges (drop r.interface right.nodes) (after_left r p right g), mid_edges_lem))

  -- the changes give the tables in the end
  changed-after : (changed r p right g).host ≡ after r p right g.host
  changed-after = λ i. record { nodes = final_nodes i; edges = final_edges i }

  room-nodes : length (drop r.interface right.nodes) ≤ free_slots (after_left r p right g).host.nodes
      → length (drop r.interface right.nodes) ≤ free_slots (mid_nodes r p right g.host)
  room-nodes h = rw mid_nodes_lem at h

  room-edges : length right.edges ≤ free_slots (after_new r p right g).ledger.host.edges
      → length (new_edges r p right g.host) ≤ free_slots (mid_edges r p g.host)
  unfolding new_edges
  room-edges h =
      rw (length-map right.edges (between (right_slots r p right g.host)))
      (rw (add_nodes-edges (drop r.interface right.nodes) (after_left r p right g), mid_edges_lem) at h)

-- The slots of left nodes once the left side is gone.

slot_kept : (k : ℕ) (ns : List Node) (i : ℕ) → i < k → i < length ns → slot_after (take k ns) i ≡ live (get_or ns i no_node)
slot_kept zero ns i h l = absurd (omega arith)
slot_kept (suc k) [] i h l = absurd (omega arith)
slot_kept (suc k) (n ∷ ns) zero h l = refl
slot_kept (suc k) (n ∷ ns) (suc i) h l = slot_kept k ns i (omega arith) (omega arith)

slot-gone : (k : ℕ) (ns : List Node) (i : ℕ) → k ≤ i → slot_after (take k ns) i ≡ free
slot-gone zero ns i h = refl
slot-gone (suc k) [] i h = refl
slot-gone (suc k) (n ∷ ns) zero h = absurd (omega arith)
slot-gone (suc k) (n ∷ ns) (suc i) h = slot-gone k ns i (omega arith)

-- the root flag that an interface node takes is the published one
root-from : (preserving : Bool) (left right host : ℕ) → root_taken preserving left right host ≡ root_from preserving left host right
unfolding root_taken both choose
root-from true left right host = refl
root-from false left right host = refl

module _ (most : ℕ) (r : Rule) (rule : LegalRule r) (p : List ℕ) (h : Host) (m : Match h r p)
    (words : (v : ℕ) → Words (assigned h r p v)) (right : Right) (values : right_side most h r p ≡ some right)
    (room_n : length (drop r.interface right.nodes) ≤ free_slots (mid_nodes r p right h))
    (room_e : length (new_edges r p right h) ≤ free_slots (mid_edges r p h))
  where
    sizes : (length right.nodes ≡ length r.right.nodes) × (length right.edges ≡ length r.right.edges)
    sizes = right_side-some most h r p right values

    abbrev g : Premorphism r.left (graph_of h)
    g = premorphism h r p m

    -- Nodes.

    front : length (take (left_nodes r) p) ≡ left_nodes r
    front = let s = m.size in length-take-le (left_nodes r) p (omega arith)

    left-slot : (i : ℕ) → i < left_nodes r → get_or (take (left_nodes r) p) i 0 ≡ node_slot p i
    left-slot i k = get_or-take (left_nodes r) p i 0 k

    mid_at : (i : ℕ) → i < left_nodes r
        → get_or (mid_nodes r p right h) (node_slot p i) free ≡ slot_after (take r.interface right.nodes) i
    unfolding mid_nodes
    mid_at i k =
        rw (left-slot i k) at
        (overwritten-at (slot_after (take r.interface right.nodes)) (take (left_nodes r) p) h.nodes
        (λ j l. rw (left-slot j (omega (arith, front))) (node-inside h r p m j (omega (arith, front))))
        (λ j j' l l' e.
        m.nodes_apart j j' l (omega (arith, front))
        (sym (left-slot j (omega (arith, front))) ∙ e ∙ left-slot j' (omega (arith, front)))) i (omega (arith, front)))

    mid_other : (x : ℕ) → ((i : ℕ) → i < left_nodes r → node_slot p i ≡ x → ⊥)
        → get_or (mid_nodes r p right h) x free ≡ get_or h.nodes x free
    unfolding mid_nodes
    mid_other x n =
        overwritten-other _ (take (left_nodes r) p) h.nodes x
        (λ i l e. n i (omega (arith, front)) (sym (left-slot i (omega (arith, front))) ∙ e))

    find-left : (x : ℕ)
        → ((i : ℕ) × (i < left_nodes r) × (node_slot p i ≡ x)) ⊎ ((i : ℕ) → i < left_nodes r → node_slot p i ≡ x → ⊥)
    find-left x = at (find x (take (left_nodes r) p))
      where
        at : ((i : ℕ) × (i < length (take (left_nodes r) p)) × (get_or (take (left_nodes r) p) i 0 ≡ x))
            ⊎ ((i : ℕ) → i < length (take (left_nodes r) p) → get_or (take (left_nodes r) p) i 0 ≡ x → ⊥)
            → ((i : ℕ) × (i < left_nodes r) × (node_slot p i ≡ x)) ⊎ ((i : ℕ) → i < left_nodes r → node_slot p i ≡ x → ⊥)
        at (inl t) = let l : t.0 < left_nodes r = omega (arith, t.1, front) in inl (t.0, l, sym (left-slot t.0 l) ∙ t.2)
        at (inr n) = inr (λ i k e. n i (omega (arith, front)) (left-slot i k ∙ e))

    mid_interface : (i : ℕ) → i < r.interface → get_or (mid_nodes r p right h) (node_slot p i) free ≡ live (get_or right.nodes i no_node)
    mid_interface i k =
        let a = interface-left r rule.holds in
        let b = interface-right r rule.holds in
        mid_at i (omega arith) ∙ slot_kept r.interface right.nodes i k (omega (arith, sizes.0))

    -- what is live then is what stays
    mid_stays : (x : ℕ) → StaysNode r (graph_of h) g x → live_at (mid_nodes r p right h) x ≡ true
    unfolding is_live
    mid_stays x s = at (find-left x)
      where
        at : ((i : ℕ) × (i < left_nodes r) × (node_slot p i ≡ x)) ⊎ ((i : ℕ) → i < left_nodes r → node_slot p i ≡ x → ⊥)
            → live_at (mid_nodes r p right h) x ≡ true
        at (inr n) = ap is_live (mid_other x n) ∙ s.node
        at (inl t) = of (dec_lt t.0 r.interface)
          where
            of : Dec (t.0 < r.interface) → live_at (mid_nodes r p right h) x ≡ true
            of (yes k) = rw (← t.2, mid_interface t.0 k)
            of (no k) = absurd (s.kept t.0 (omega arith) t.1 t.2)

    mid_back : (x : ℕ) → live_at (mid_nodes r p right h) x ≡ true → StaysNode r (graph_of h) g x
    mid_back x a = at (find-left x)
      where
        at : ((i : ℕ) × (i < left_nodes r) × (node_slot p i ≡ x)) ⊎ ((i : ℕ) → i < left_nodes r → node_slot p i ≡ x → ⊥)
            → StaysNode r (graph_of h) g x
        at (inr n) =
            record { node = ap is_live (sym (mid_other x n)) ∙ a; kept = λ j k l e. n j l e }
        at (inl t) = of (dec_lt t.0 r.interface)
          where
            of : Dec (t.0 < r.interface) → StaysNode r (graph_of h) g x
            of (yes k) =
                record {
                  node = rw t.2 at (m.nodes_live t.0 t.1);
                  kept = λ j l u e. m.nodes_apart t.0 j (omega arith) u (t.2 ∙ sym e);
                }
            of (no k) =
                let f = mid_at t.0 t.1 ∙ slot-gone r.interface right.nodes t.0 (omega arith) in
                absurd (not_free _ a (ap (λ (y : ℕ). get_or (mid_nodes r p right h) y free) (sym t.2) ∙ f))

    new_node : ℕ → ℕ
    new_node j = get_or (new_slots r p right h) (j - r.interface) 0

    behind : length (drop r.interface right.nodes) ≡ length right.nodes - r.interface
    behind = length-drop r.interface right.nodes

    nodes-at : (x : ℕ) → StaysNode r (graph_of h) g x
        → get_or (after r p right h).nodes x free ≡ get_or (mid_nodes r p right h) x free
    unfolding after
    nodes-at x s = filled_live (drop r.interface right.nodes) (mid_nodes r p right h) x (mid_stays x s)

    new-at : (j : ℕ) → r.interface ≤ j → j < length r.right.nodes
        → get_or (after r p right h).nodes (new_node j) free ≡ live (get_or right.nodes j no_node)
    unfolding after new_node new_slots
    new-at j k l =
        let f : r.interface + (j - r.interface) ≡ j = omega arith in
        filled_at no_node (drop r.interface right.nodes) (mid_nodes r p right h) room_n (j - r.interface) (omega (arith, behind, sizes.0))
        ∙ ap live (rw f at (get_or-drop r.interface right.nodes (j - r.interface) no_node))

    nodes-union : Union (StaysNode r (graph_of h) g) (λ j. (r.interface ≤ j) × (j < length r.right.nodes))
        (λ x. live_at (after r p right h).nodes x ≡ true) (λ x. x) new_node
    unfolding is_live new_node new_slots after
    nodes-union =
        record {
          from_a = λ x s. ap is_live (nodes-at x s) ∙ mid_stays x s;
          from_b = λ j b. rw (new-at j b.0 b.1);
          apart_a = λ x y s t e. e;
          apart_b = λ j k b c e. one j k b c e;
          apart = λ x j s b e. away x j s b e;
          all = λ z l. back z (from z l);
        }
      where
        one : (j k : ℕ) → (r.interface ≤ j) × (j < length r.right.nodes) → (r.interface ≤ k) × (k < length r.right.nodes)
            → new_node j ≡ new_node k → j ≡ k
        one j k b c e =
            omega (
              arith,
              b.0,
              c.0,
              places-apart (drop r.interface right.nodes) (mid_nodes r p right h) room_n (j - r.interface) (k - r.interface)
                  (omega (arith, behind, sizes.0, b.0, b.1)) (omega (arith, behind, sizes.0, c.0, c.1)) e,
            )

        away : (x j : ℕ) → StaysNode r (graph_of h) g x → (r.interface ≤ j) × (j < length r.right.nodes) → x ≡ new_node j → ⊥
        away x j s b e =
            let f = places-free (drop r.interface right.nodes) (mid_nodes r p right h) room_n (j - r.interface) (omega (arith, behind, sizes.0, b.0, b.1)) in
            not_free _ (mid_stays x s) (ap (λ (y : ℕ). get_or (mid_nodes r p right h) y free) e ∙ f)

        from : (z : ℕ) → live_at (after r p right h).nodes z ≡ true
            → (live_at (mid_nodes r p right h) z ≡ true)
            ⊎ ((i : ℕ) × (i < length (drop r.interface right.nodes)) × (get_or (new_slots r p right h) i 0 ≡ z))
        from z l = filled-back (drop r.interface right.nodes) (mid_nodes r p right h) z l

        back : (z : ℕ)
            → (live_at (mid_nodes r p right h) z ≡ true)
            ⊎ ((i : ℕ) × (i < length (drop r.interface right.nodes)) × (get_or (new_slots r p right h) i 0 ≡ z))
            → ((x : ℕ) × StaysNode r (graph_of h) g x × (x ≡ z))
            ⊎ ((j : ℕ) × ((r.interface ≤ j) × (j < length r.right.nodes)) × (new_node j ≡ z))
        back z (inl l) = inl (z, mid_back z l, refl)
        back z (inr t) =
            let f : r.interface + t.0 - r.interface ≡ t.0 = omega arith in
            inr (r.interface + t.0, (omega arith, omega (arith, behind, sizes.0, t.1)), rw f t.2)

    -- Edges.

    rest : length (drop (left_nodes r) p) ≡ left_edges r
    rest = length-drop (left_nodes r) p ∙ (let s = m.size in omega arith)

    left-edge : (k : ℕ) → get_or (drop (left_nodes r) p) k 0 ≡ edge_slot r p k
    left-edge k = get_or-drop (left_nodes r) p k 0

    edge-is : (x : ℕ) → StaysEdge r (graph_of h) g x → get_or (mid_edges r p h) x free ≡ get_or h.edges x free
    unfolding mid_edges
    edge-is x s =
        overwritten-other _ (drop (left_nodes r) p) h.edges x (λ k l e. s.kept k (omega (arith, rest)) (sym (left-edge k) ∙ e))

    -- what is live once the left side is gone is what stays
    edge-back : (x : ℕ) → live_at (mid_edges r p h) x ≡ true → StaysEdge r (graph_of h) g x
    unfolding mid_edges
    edge-back x a = at (find x (drop (left_nodes r) p))
      where
        at : ((i : ℕ) × (i < length (drop (left_nodes r) p)) × (get_or (drop (left_nodes r) p) i 0 ≡ x))
            ⊎ ((i : ℕ) → i < length (drop (left_nodes r) p) → get_or (drop (left_nodes r) p) i 0 ≡ x → ⊥)
            → StaysEdge r (graph_of h) g x
        at (inr n) =
            record {
              edge = ap is_live (sym (overwritten-other _ (drop (left_nodes r) p) h.edges x n)) ∙ a;
              kept = λ k l e. n k (omega (arith, rest)) (left-edge k ∙ e);
            }
        at (inl t) =
            let f = overwritten-at (λ i. free) (drop (left_nodes r) p) h.edges
            (λ j l. rw (left-edge j) (edge-inside h r p m j (omega (arith, rest))))
            (λ j j' l l' e. m.edges_apart j j' l (omega (arith, rest)) (sym (left-edge j) ∙ e ∙ left-edge j')) t.0 t.1 in
            absurd (not_free _ a (ap (λ (y : ℕ). get_or (overwritten (λ i. free) (drop (left_nodes r) p) h.edges) y free) (sym t.2) ∙ f))

    new_edge : ℕ → ℕ
    new_edge k = get_or (edge_slots r p right h) k 0

    many : length (new_edges r p right h) ≡ length r.right.edges
    unfolding new_edges
    many = length-map right.edges (between (right_slots r p right h)) ∙ sizes.1

    edges_at : (x : ℕ) → StaysEdge r (graph_of h) g x → get_or (after r p right h).edges x free ≡ get_or h.edges x free
    unfolding after
    edges_at x s =
        filled_live (new_edges r p right h) (mid_edges r p h) x (ap is_live (edge-is x s) ∙ s.edge) ∙ edge-is x s

    new-edge-at : (k : ℕ) → k < length r.right.edges
        → get_or (after r p right h).edges (new_edge k) free ≡ live (between (right_slots r p right h) (get_or right.edges k no_edge))
    unfolding after new_edge edge_slots new_edges
    new-edge-at k l =
        filled_at no_edge (new_edges r p right h) (mid_edges r p h) room_e k (omega (arith, many))
        ∙ ap live (get_or-map_in (between (right_slots r p right h)) right.edges k no_edge no_edge (omega (arith, sizes.1)))

    edges-union : Union (StaysEdge r (graph_of h) g) (λ k. k < length r.right.edges)
        (λ x. live_at (after r p right h).edges x ≡ true) (λ x. x) new_edge
    unfolding is_live new_edge edge_slots after
    edges-union =
        record {
          from_a = λ x s. ap is_live (edges_at x s) ∙ s.edge;
          from_b = λ k b. rw (new-edge-at k b);
          apart_a = λ x y s t e. e;
          apart_b = λ j k b c e.
              places-apart (new_edges r p right h) (mid_edges r p h) room_e j k (omega (arith, many)) (omega (arith, many)) e;
          apart = λ x k s b e.
              not_free _ (ap is_live (edge-is x s) ∙ s.edge)
              (ap (λ (y : ℕ). get_or (mid_edges r p h) y free) e
              ∙ places-free (new_edges r p right h) (mid_edges r p h) room_e k (omega (arith, many)));
          all = λ z l. back z (filled-back (new_edges r p right h) (mid_edges r p h) z l);
        }
      where
        back : (z : ℕ)
            → (live_at (mid_edges r p h) z ≡ true)
            ⊎ ((i : ℕ) × (i < length (new_edges r p right h)) × (get_or (places (new_edges r p right h) (mid_edges r p h)) i 0 ≡ z))
            → ((x : ℕ) × StaysEdge r (graph_of h) g x × (x ≡ z))
            ⊎ ((k : ℕ) × (k < length r.right.edges) × (get_or (places (new_edges r p right h) (mid_edges r p h)) k 0 ≡ z))
        back z (inl l) = inl (z, edge-back z l, refl)
        back z (inr t) = inr (t.0, omega (arith, many, t.1), t.2)

    -- the slot of a right node
    slot_placed : (j : ℕ) → get_or (right_slots r p right h) j 0 ≡ placed r (node_slot p) (λ x. x) new_node j
    unfolding right_slots new_node
    slot_placed j = at (dec_lt j r.interface)
      where
        size : length (take r.interface p) ≡ r.interface
        size = let s = m.size in let a = interface-left r rule.holds in length-take-le r.interface p (omega arith)

        at : Dec (j < r.interface)
            → get_or (take r.interface p ++ new_slots r p right h) j 0 ≡ placed r (node_slot p) (λ x. x) new_node j
        at (yes k) =
            get_or-append (take r.interface p) (new_slots r p right h) 0 j (omega (arith, size)) ∙ get_or-take r.interface p j 0 k
            ∙ sym (choose_lt j r.interface (node_slot p j) (new_node j) k)
        at (no k) =
            let f : length (take r.interface p) + (j - r.interface) ≡ j = omega (arith, size) in
            rw f at (get_or-append-add (take r.interface p) (new_slots r p right h) (j - r.interface) 0)
            ∙ sym (choose_le j r.interface (node_slot p j) (new_node j) (omega arith))

    -- The construction.

    constructed : Constructed r (graph_of h) g (assigned h r p) (graph_of (after r p right h))
    unfolding node_in edge_in
    constructed =
        record {
          keep_node = λ x. x;
          new_node = new_node;
          keep_edge = λ x. x;
          new_edge = new_edge;
          nodes = nodes-union;
          edges = edges-union;
          kept_sources = λ e s. rw (edges_at e s);
          kept_targets = λ e s. rw (edges_at e s);
          new_sources = λ k l.
              let v = edge-value-at most h r rule p words right values k l in
              rw (new-edge-at k l, v.source) (slot_placed (edge_of r.right k).source);
          new_targets = λ k l.
              let v = edge-value-at most h r rule p words right values k l in
              rw (new-edge-at k l, v.target) (slot_placed (edge_of r.right k).target);
          kept_labels = λ v s n. rw (nodes-at v s, mid_other v (other v s n));
          interface_labels = λ i k.
              let a = interface-left r rule.holds in
              let b = interface-right r rule.holds in
              let v = node-value most h r rule p words right values i (omega arith) in
              let t = choose_lt i r.interface _ _ k ∙ root-from r.preserving (left_node r i).root (node_of r.right i).root (node_at h (node_slot p i)).root in
              rw (nodes-at (node_slot p i) (stays i k), mid_interface i k) (record { list = v.list; root = v.root ∙ t; mark = v.mark });
          new_labels = λ j k l.
              let v = node-value most h r rule p words right values j l in
              let e = choose_false (eqb (node_of r.right j).mark any_mark) (node_at h (node_slot p j)).mark (node_of r.right j).mark (new-marked r rule.holds j k l _) in
              rw (new-at j k l) (record { list = v.list; root = v.root ∙ choose_le j r.interface _ _ k; mark = v.mark ∙ e });
          kept_edge_labels = λ e s. rw (edges_at e s);
          new_edge_labels = λ k l. rw (new-edge-at k l) (edge-value-at most h r rule p words right values k l).label;
        }
      where
        other : (v : ℕ) → StaysNode r (graph_of h) g v → ((i : ℕ) → i < r.interface → node_slot p i ≡ v → ⊥)
            → (i : ℕ) → i < left_nodes r → node_slot p i ≡ v → ⊥
        other v s n i k e = at (dec_lt i r.interface)
          where
            at : Dec (i < r.interface) → ⊥
            at (yes l) = n i l e
            at (no l) = s.kept i (omega arith) k e

        stays : (i : ℕ) → i < r.interface → StaysNode r (graph_of h) g (node_slot p i)
        stays i k =
            let a = interface-left r rule.holds in
            record {
              node = m.nodes_live i (omega arith);
              kept = λ j l u e. m.nodes_apart i j (omega arith) u (sym e);
            }

-- where the interpreter applies a rule at a match, the graph after it is constructed from the graph before it
pub application_constructs : (most room : ℕ) (r : Rule) → LegalRule r → (p : List ℕ) (g g' : Ledger) (m : Match g.host r p)
    → ((v : ℕ) → Words (assigned g.host r p v)) → apply most room r p g ≡ applied g'
    → Constructed r (graph_of g.host) (premorphism g.host r p m) (assigned g.host r p) (graph_of g'.host)
application_constructs most room r rule p g g' m words e =
    let a = apply-applied most room r p g g' e in
    rw (a.changes, changed-after r p a.right g)
    (constructed most r rule p g.host m words a.right a.values
    (room-nodes r p a.right g (nodes-room most room r p g g' m a)) (room-edges r p a.right g (edges_room most room r p g g' m a)))
