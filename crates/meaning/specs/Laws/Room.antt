-- Room for what comes: once a match's left edges and nodes are gone there is a free slot for each new node and for each right
-- edge, what comes stands in its slot, and nothing live is overwritten. Rests on Matching and Applying, and in this folder on Slots and
-- Applying.
use Rattle.std.specs.Prelude.{ℕ, suc, ◌+◌, ◌-◌, ◌<◌, ◌≤◌, min, ◌≡◌, refl, List, [], ◌∷◌, ◌++◌, map, true, length, get_or, set, take, drop}
use Rattle.std.proofs.Common.{sym, ◌∙◌, ap, arith, length-take, length-drop, get_or-set_other, get_or-take, get_or-drop}
use Rattle.meaning.specs.Layout.{Slot, free, live, Node, Edge, Host, live_at, Change, of_node, of_edge, put}
use Rattle.meaning.specs.Image.{Rule}
use Rattle.meaning.specs.Matching.{left_nodes, left_edges, Match}
use Rattle.meaning.specs.Applying.{Right, Ledger, store, stores, lowest_free, free_slots, edges_go, nodes_change, Added, add_nodes, between, add_edges, changed}
use Rattle.meaning.specs.Laws.Slots.{free_slots-go, free_slots_stay}
use Rattle.meaning.specs.Laws.Applying.{stores_append, right_side-some, Applies}

-- The slots of a list are live in a table, and no two are the same.

pub record Placed {A : Type 0} (t : List (Slot A)) (l : List ℕ) : Type 0 where
  pub alive : (i : ℕ) → i < length l → live_at t (get_or l i 0) ≡ true
  pub apart : (i j : ℕ) → i < j → j < length l → get_or l i 0 ≡ get_or l j 0 → ⊥

-- so are the later ones after a change of the first
placed-rest : {A : Type 0} (t : List (Slot A)) (x : ℕ) (l : List ℕ) (a : Slot A) → Placed t (x ∷ l)
    → Placed (set t x a) l
placed-rest t x l a p =
    record {
      alive = λ i h.
          rw (get_or-set_other t x (get_or l i 0) a free (λ e. p.apart 0 (suc i) (omega arith) (omega arith) (sym e)))
          (p.alive (suc i) (omega arith));
      apart = λ i j h k e. p.apart (suc i) (suc j) (omega arith) (omega arith) e;
    }

pub match-nodes : (h : Host) (r : Rule) (p : List ℕ) → Match h r p → Placed h.nodes (take (left_nodes r) p)
match-nodes h r p m =
    let k = length-take (left_nodes r) p in
    record {
      alive = λ i l. rw (get_or-take (left_nodes r) p i 0 (omega arith)) (m.nodes_live i (omega arith));
      apart = λ i j l n e.
          m.nodes_apart i j l (omega arith)
          (sym (get_or-take (left_nodes r) p i 0 (omega arith)) ∙ e ∙ get_or-take (left_nodes r) p j 0 (omega arith));
    }

pub match-edges : (h : Host) (r : Rule) (p : List ℕ) → Match h r p → Placed h.edges (drop (left_nodes r) p)
match-edges h r p m =
    let k = length-drop (left_nodes r) p in
    let z = m.size in
    record {
      alive = λ i l. rw (get_or-drop (left_nodes r) p i 0) (m.edges_live i (omega arith));
      apart = λ i j l n e.
          m.edges_apart i j l (omega arith) (sym (get_or-drop (left_nodes r) p i 0) ∙ e ∙ get_or-drop (left_nodes r) p j 0);
    }

-- What goes.

edges_go-free : (l : List ℕ) (g : Ledger) → Placed g.host.edges l
    → free_slots (stores (map (λ x. of_edge x free) l) g).host.edges ≡ free_slots g.host.edges + length l
unfolding stores store put
edges_go-free [] g p = omega arith
edges_go-free (x ∷ l) g p =
    let h = edges_go-free l (store (of_edge x free) g) (placed-rest g.host.edges x l free p) in
    omega (arith, free_slots-go g.host.edges x (p.alive 0 (omega arith)))

pub edges_go-nodes : (l : List ℕ) (g : Ledger) → (stores (map (λ x. of_edge x free) l) g).host.nodes ≡ g.host.nodes
unfolding stores store put
edges_go-nodes [] g = refl
edges_go-nodes (x ∷ l) g = edges_go-nodes l (store (of_edge x free) g)

nodes_change-free : (ns : List Node) (l : List ℕ) (g : Ledger) → Placed g.host.nodes l
    → free_slots (stores (nodes_change ns l) g).host.nodes ≡ free_slots g.host.nodes + (length l - length ns)
unfolding stores store put nodes_change
nodes_change-free [] [] g p = omega arith
nodes_change-free (n ∷ ns) [] g p = omega arith
nodes_change-free [] (x ∷ l) g p =
    let h = nodes_change-free [] l (store (of_node x free) g) (placed-rest g.host.nodes x l free p) in
    omega (arith, free_slots-go g.host.nodes x (p.alive 0 (omega arith)))
nodes_change-free (n ∷ ns) (x ∷ l) g p =
    let h = nodes_change-free ns l (store (of_node x (live n)) g) (placed-rest g.host.nodes x l (live n) p) in
    omega (arith, free_slots_stay g.host.nodes x n (p.alive 0 (omega arith)))

pub nodes_change-edges : (ns : List Node) (l : List ℕ) (g : Ledger) → (stores (nodes_change ns l) g).host.edges ≡ g.host.edges
unfolding stores store put nodes_change
nodes_change-edges [] [] g = refl
nodes_change-edges (n ∷ ns) [] g = refl
nodes_change-edges [] (x ∷ l) g = nodes_change-edges [] l (store (of_node x free) g)
nodes_change-edges (n ∷ ns) (x ∷ l) g = nodes_change-edges ns l (store (of_node x (live n)) g)

pub add_nodes-edges : (l : List Node) (g : Ledger) → (add_nodes l g).ledger.host.edges ≡ g.host.edges
unfolding add_nodes store put
add_nodes-edges [] g = refl
add_nodes-edges (n ∷ l) g = add_nodes-edges l (store (of_node (lowest_free g.host.nodes) (live n)) g)

pub add_edges-nodes : (slots : List ℕ) (l : List Edge) (g : Ledger) → (add_edges slots l g).host.nodes ≡ g.host.nodes
unfolding add_edges store put
add_edges-nodes slots [] g = refl
add_edges-nodes slots (e ∷ l) g =
    let c : Change (Slot Node) (Slot Edge) = of_edge (lowest_free g.host.edges) (live (between slots e)) in
    add_edges-nodes slots l (store c g)

-- The three parts of the changes: left edges and nodes, new nodes, right edges.

abbrev pub after_left : Rule → List ℕ → Right → Ledger → Ledger
after_left r p right g =
    stores (edges_go r p ++ nodes_change (take r.interface right.nodes) (take (left_nodes r) p)) g

abbrev pub after_new : Rule → List ℕ → Right → Ledger → Added
after_new r p right g = add_nodes (drop r.interface right.nodes) (after_left r p right g)

pub changed-is : (r : Rule) (p : List ℕ) (right : Right) (g : Ledger)
    → changed r p right g
    ≡ add_edges (take r.interface p ++ (after_new r p right g).slots) right.edges (after_new r p right g).ledger
unfolding changed
changed-is r p right g = refl

-- the free slots, once the left edges and nodes are gone
pub after_left-nodes : (r : Rule) (p : List ℕ) (right : Right) (g : Ledger) → Match g.host r p
    → free_slots (after_left r p right g).host.nodes
    ≡ free_slots g.host.nodes + (left_nodes r - min r.interface (length right.nodes))
after_left-nodes r p right g m =
    let e = edges_go-nodes (drop (left_nodes r) p) g in
    let w = match-nodes g.host r p m in
    let k = nodes_change-free (take r.interface right.nodes) (take (left_nodes r) p) (stores (edges_go r p) g) (rw e w) in
    let q = ap free_slots e in
    let n = m.size in
    let i = length-take (left_nodes r) p in
    let j = length-take r.interface right.nodes in
    rw stores_append (k ∙ omega arith)

pub after_left-edges : (r : Rule) (p : List ℕ) (right : Right) (g : Ledger) → Match g.host r p
    → free_slots (after_left r p right g).host.edges ≡ free_slots g.host.edges + left_edges r
after_left-edges r p right g m =
    let e = nodes_change-edges (take r.interface right.nodes) (take (left_nodes r) p) (stores (edges_go r p) g) in
    let k = edges_go-free (drop (left_nodes r) p) g (match-edges g.host r p m) in
    let n = m.size in
    let i = length-drop (left_nodes r) p in
    rw stores_append (ap free_slots e ∙ k ∙ omega arith)

-- where a rule was applied at a match, there was a slot for each new node and each right edge
pub nodes-room : (most room : ℕ) (r : Rule) (p : List ℕ) (g g' : Ledger) → Match g.host r p
    → (a : Applies most room r p g g')
    → length (drop r.interface a.right.nodes) ≤ free_slots (after_left r p a.right g).host.nodes
nodes-room most room r p g g' m a =
    let t = right_side-some most g.host r p a.right a.values in
    let k = after_left-nodes r p a.right g m in
    let l = length-drop r.interface a.right.nodes in
    let q = a.node_room in
    omega arith

pub edges_room : (most room : ℕ) (r : Rule) (p : List ℕ) (g g' : Ledger) → Match g.host r p
    → (a : Applies most room r p g g')
    → length a.right.edges ≤ free_slots (after_new r p a.right g).ledger.host.edges
edges_room most room r p g g' m a =
    let t = right_side-some most g.host r p a.right a.values in
    let k = after_left-edges r p a.right g m in
    let q = a.edge_room in
    rw add_nodes-edges (omega arith)
