-- Room for what comes: once a match's left edges and nodes are gone there is a free slot for each new node and for each right
-- edge, what comes stands in its slot, and nothing live is overwritten. Rests on Matching and Applying, and in this folder on Slots and
-- Applying.
use Rattle.std.specs.Prelude.{ℕ, zero, suc, ◌+◌, ◌<◌, ◌≤◌, ◌≡◌, refl, List, [], ◌∷◌, true, length, get_or, set}
use Rattle.std.proofs.Common.{◌∙◌, arith, get_or-set_same, get_or-set_other}
use Rattle.meaning.specs.Layout.{Slot, free, live, Node, Edge, is_live, live_at, Change, of_node, of_edge, put}
use Rattle.meaning.specs.Applying.{Ledger, store, lowest_free, free_slots, add_nodes, between, add_edges}
use Rattle.meaning.specs.Laws.Slots.{lowest_free_lt, lowest_free-free}
use Rattle.meaning.proofs.Laws.Slots.{come-free}

-- What comes. A slot that is live stays as it is.

come-live : {A : Type 0} (t : List (Slot A)) (a : A) (x : ℕ) → live_at t x ≡ true
    → get_or (set t (lowest_free t) (live a)) x free ≡ get_or t x free
unfolding is_live
come-live t a x h = get_or-set_other t (lowest_free t) x (live a) free (λ e. clash e)
  where
    clash : x ≡ lowest_free t → ⊥
    clash e = let q = lowest_free-free t in let z : ◌≡◌ {A = ℕ} 0 1 = cc in omega arith

pub add_nodes-free : (l : List Node) (g : Ledger) → length l ≤ free_slots g.host.nodes
    → free_slots (add_nodes l g).ledger.host.nodes + length l ≡ free_slots g.host.nodes
unfolding add_nodes store put
add_nodes-free [] g h = omega arith
add_nodes-free (n ∷ l) g h =
    let q = come-free g.host.nodes n (omega arith) in
    let k = add_nodes-free l (store (of_node (lowest_free g.host.nodes) (live n)) g) (omega arith) in
    omega arith

pub add_nodes-live : (l : List Node) (g : Ledger) (x : ℕ) → live_at g.host.nodes x ≡ true
    → get_or (add_nodes l g).ledger.host.nodes x free ≡ get_or g.host.nodes x free
unfolding add_nodes store put
add_nodes-live [] g x h = refl
add_nodes-live (n ∷ l) g x h =
    let q = come-live g.host.nodes n x h in
    add_nodes-live l (store (of_node (lowest_free g.host.nodes) (live n)) g) x (rw q h) ∙ q

-- and stands in it
pub add_nodes-at : (l : List Node) (g : Ledger) (d : Node) → length l ≤ free_slots g.host.nodes → (i : ℕ)
    → i < length l
    → get_or (add_nodes l g).ledger.host.nodes (get_or (add_nodes l g).slots i 0) free ≡ live (get_or l i d)
unfolding add_nodes store put is_live
add_nodes-at [] g d h i k = absurd (omega arith)
add_nodes-at (n ∷ l) g d h zero k =
    let x : ℕ = lowest_free g.host.nodes in
    let q = get_or-set_same g.host.nodes x (live n) free (lowest_free_lt g.host.nodes (omega arith)) in
    add_nodes-live l (store (of_node x (live n)) g) x (rw q) ∙ q
add_nodes-at (n ∷ l) g d h (suc i) k =
    let q = come-free g.host.nodes n (omega arith) in
    add_nodes-at l (store (of_node (lowest_free g.host.nodes) (live n)) g) d (omega arith) i (omega arith)

pub add_edges-free : (slots : List ℕ) (l : List Edge) (g : Ledger) → length l ≤ free_slots g.host.edges
    → free_slots (add_edges slots l g).host.edges + length l ≡ free_slots g.host.edges
unfolding add_edges store put
add_edges-free slots [] g h = omega arith
add_edges-free slots (e ∷ l) g h =
    let c : Change (Slot Node) (Slot Edge) = of_edge (lowest_free g.host.edges) (live (between slots e)) in
    let q = come-free g.host.edges (between slots e) (omega arith) in
    let k = add_edges-free slots l (store c g) (omega arith) in
    omega arith
