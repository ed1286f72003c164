-- Further free slots behind both tables, room for more records and labels of more atoms: stores inside the tables, new nodes and right
-- edges, and so an application at a match, do the same, and the further slots stay free behind.
-- Rests on Laws/Alike, Laws/LargerLabels and the meaning's Laws/Room.
use Prim.Native.Nat.{ℕ, zero, suc, ◌+◌, ◌<◌, ◌≤◌}
use Rattle.std.specs.Prelude.{◌≡◌, length, get_or, drop, replicate}
use Rattle.std.proofs.Math.Path.{refl, ap}
use Rattle.std.proofs.Common.{sym, ◌∙◌, arith, length-drop}
use Rattle.std.proofs.Math.Option.{Option, some, none}
use mathlib.Core.List.{List, [], ◌∷◌, ◌++◌, map}
use Rattle.std.proofs.Math.Decide.{dec_le}
use Rattle.std.proofs.Math.ListN.{take}
use Rattle.std.proofs.Math.Seq.{set-append_left}
use Rattle.meaning.specs.Layout.{Slot, free, live, Node, Edge, Host, Change, of_node, of_edge, put}
use Rattle.meaning.specs.Image.{Rule}
use Rattle.meaning.specs.Matching.{left_nodes, left_edges, Match}
use Rattle.meaning.specs.Applying.{Right, right_side, Ledger, standing, store, stores, lowest_free, free_slots, edges_go, nodes_change, Added, add_nodes, between, add_edges, changed, new_nodes, gone_nodes, records_of, hindrance, Applied, applied, hindered, unhindered, apply, ledger_at}
use Rattle.meaning.specs.Laws.Every.{Every, Every-then}
use Rattle.laws.specs.Records.{Every-append}
use Rattle.laws.specs.Resized.{free-behind}
use Rattle.meaning.specs.Laws.Slots.{lowest_free_lt, free_slots_append, put-nodes, put-edges, live_at_lt}
use Rattle.meaning.proofs.Laws.Slots.{come-free}
use Rattle.demands.specs.Laws.Hindrance.{labels-first, nodes-second, edges_third, records-last, unhindered-of}
use Rattle.meaning.specs.Laws.Applying.{store-host, right_side-some}
use Rattle.meaning.specs.Laws.Room.{Placed, match-nodes, match-edges, after_left, after_new, after_left-nodes, after_left-edges, add_nodes-edges}
use Rattle.demands.specs.Laws.Alike.{Alike, right_side-alike}
use Rattle.demands.specs.Laws.LargerLabels.{right_side_larger}
use Rattle.meaning.specs.declared.Stop.{Stop}
use Rattle.meaning.specs.declared.Stop.TheVariants.{OutOfFuel, NoNodeRoom, NoEdgeRoom, NoRecordRoom, LabelTooLarge}

-- One table.

abbrev pub further : {A : Type 0} → ℕ → List (Slot A) → List (Slot A)
further n t = t ++ replicate n free

pub further-at : {A : Type 0} (n : ℕ) (t : List (Slot A)) (i : ℕ) → get_or (further n t) i free ≡ get_or t i free
further-at n t i = free-behind t n i

all-free : (A : Type 0) (n : ℕ) → free_slots {A = A} (replicate n free) ≡ n
unfolding free_slots
all-free A zero = refl
all-free A (suc n) = ap suc (all-free A n)

pub further-free : {A : Type 0} (n : ℕ) (t : List (Slot A)) → free_slots (further n t) ≡ free_slots t + n
further-free {A} n t = free_slots_append t (replicate n free) ∙ ap (λ (m : ℕ). free_slots t + m) (all-free A n)

pub further-lowest : {A : Type 0} (n : ℕ) (t : List (Slot A)) → 0 < free_slots t → lowest_free (further n t) ≡ lowest_free t
unfolding lowest_free free_slots
further-lowest n [] h = absurd (omega arith)
further-lowest n (free ∷ t) h = refl
further-lowest n (live a ∷ t) h = ap suc (further-lowest n t h)

-- a change is inside the tables of a host
abbrev pub Inside : Host → Change (Slot Node) (Slot Edge) → Type 0
Inside h (of_node i s) = i < length h.nodes
Inside h (of_edge i s) = i < length h.edges

pub inside-put : (c d : Change (Slot Node) (Slot Edge)) (h : Host) → Inside h d → Inside (put c h) d
inside-put c (of_node i s) h k = omega (arith, put-nodes c h)
inside-put c (of_edge i s) h k = omega (arith, put-edges c h)

module _ (a b : ℕ) where
  abbrev pub roomier : Host → Host
  roomier h = record { nodes = further a h.nodes; edges = further b h.edges }

  abbrev pub roomier_ledger : Ledger → Ledger
  roomier_ledger g = ledger_at (roomier g.host) g.journal

  abbrev pub roomier_added : Added → Added
  roomier_added n = record { ledger = roomier_ledger n.ledger; slots = n.slots }

  pub roomier-alike : (h : Host) → Alike h (roomier h)
  roomier-alike h =
      record { nodes = λ i. sym (further-at a h.nodes i); edges = λ i. sym (further-at b h.edges i) }

  -- Stores.

  pub store-roomier : (c : Change (Slot Node) (Slot Edge)) (g : Ledger) → Inside g.host c
      → store c (roomier_ledger g) ≡ roomier_ledger (store c g)
  unfolding store put standing
  store-roomier (of_node i s) g k =
      rw (further-at a g.host.nodes i, set-append_left g.host.nodes (replicate a free) i s k)
  store-roomier (of_edge i s) g k =
      rw (further-at b g.host.edges i, set-append_left g.host.edges (replicate b free) i s k)

  stores-roomier : (l : List (Change (Slot Node) (Slot Edge))) (g : Ledger) → Every (Inside g.host) l
      → stores l (roomier_ledger g) ≡ roomier_ledger (stores l g)
  unfolding stores
  stores-roomier [] g k = refl
  stores-roomier (c ∷ l) g k =
      rw (store-roomier c g k.0)
      (stores-roomier l (store c g) (Every-then _ _ (λ d i. rw store-host (inside-put c d g.host i)) l k.1))

  -- New nodes and right edges, where there is a slot for each.

  add_nodes-roomier : (l : List Node) (g : Ledger) → length l ≤ free_slots g.host.nodes
      → add_nodes l (roomier_ledger g) ≡ roomier_added (add_nodes l g)
  unfolding add_nodes store put
  add_nodes-roomier [] g k = refl
  add_nodes-roomier (n ∷ l) g k =
      let x : ℕ = lowest_free g.host.nodes in
      let c : Change (Slot Node) (Slot Edge) = of_node x (live n) in
      let s = store-roomier c g (lowest_free_lt g.host.nodes (omega arith)) in
      let t = come-free g.host.nodes n (omega arith) in
      let r = add_nodes-roomier l (store c g) (omega arith) in
      rw (further-lowest a g.host.nodes (omega arith), s, r)

  add_edges-roomier : (slots : List ℕ) (l : List Edge) (g : Ledger) → length l ≤ free_slots g.host.edges
      → add_edges slots l (roomier_ledger g) ≡ roomier_ledger (add_edges slots l g)
  unfolding add_edges store put
  add_edges-roomier slots [] g k = refl
  add_edges-roomier slots (e ∷ l) g k =
      let c : Change (Slot Node) (Slot Edge) = of_edge (lowest_free g.host.edges) (live (between slots e)) in
      let s = store-roomier c g (lowest_free_lt g.host.edges (omega arith)) in
      let t = come-free g.host.edges (between slots e) (omega arith) in
      let r = add_edges-roomier slots l (store c g) (omega arith) in
      rw (further-lowest b g.host.edges (omega arith), s, r)

-- The changes of an application.

placed-inside : {A : Type 0} (t : List (Slot A)) (l : List ℕ) → Placed t l → Every (λ x. x < length t) l
placed-inside t [] p = tt
placed-inside t (x ∷ l) p = (
  live_at_lt t x (p.alive 0 (omega arith)),
  placed-inside t l
      (record {
        alive = λ i h. p.alive (suc i) (omega arith);
        apart = λ i j h k. p.apart (suc i) (suc j) (omega arith) (omega arith);
      }),
)

edges_go-inside : (h : Host) (l : List ℕ) → Every (λ x. x < length h.edges) l
    → Every (Inside h) (map (λ x. of_edge x free) l)
edges_go-inside h [] e = tt
edges_go-inside h (x ∷ l) e = (e.0, edges_go-inside h l e.1)

nodes_change-inside : (h : Host) (ns : List Node) (l : List ℕ) → Every (λ x. x < length h.nodes) l
    → Every (Inside h) (nodes_change ns l)
unfolding nodes_change
nodes_change-inside h [] [] e = tt
nodes_change-inside h (n ∷ ns) [] e = tt
nodes_change-inside h [] (x ∷ l) e = (e.0, nodes_change-inside h [] l e.1)
nodes_change-inside h (n ∷ ns) (x ∷ l) e = (e.0, nodes_change-inside h ns l e.1)

-- the left edges and nodes of a match are inside
pub left-inside : (r : Rule) (p : List ℕ) (ns : List Node) (h : Host) → Match h r p
    → Every (Inside h) (edges_go r p ++ nodes_change ns (take (left_nodes r) p))
left-inside r p ns h m =
    Every-append (Inside h) (edges_go r p) _
    (edges_go-inside h (drop (left_nodes r) p) (placed-inside h.edges _ (match-edges h r p m)))
    (nodes_change-inside h ns (take (left_nodes r) p) (placed-inside h.nodes _ (match-nodes h r p m)))

module _ (most : ℕ) (r : Rule) (p : List ℕ) (right : Right) (g : Ledger) (m : Match g.host r p)
    (values : right_side most g.host r p ≡ some right) where
  -- there is a slot for each new node and each right edge
  pub new-room : new_nodes r ≤ free_slots g.host.nodes + gone_nodes r
      → length (drop r.interface right.nodes) ≤ free_slots (after_left r p right g).host.nodes
  new-room q =
      let t = right_side-some most g.host r p right values in
      let k = after_left-nodes r p right g m in
      let l = length-drop r.interface right.nodes in
      omega arith

  pub edge-room : length r.right.edges ≤ free_slots g.host.edges + left_edges r
      → length right.edges ≤ free_slots (after_new r p right g).ledger.host.edges
  edge-room q =
      let t = right_side-some most g.host r p right values in
      let k = after_left-edges r p right g m in
      rw add_nodes-edges (omega arith)

  pub changed-roomier : (a b : ℕ) → new_nodes r ≤ free_slots g.host.nodes + gone_nodes r
      → length r.right.edges ≤ free_slots g.host.edges + left_edges r
      → changed r p right (roomier_ledger a b g) ≡ roomier_ledger a b (changed r p right g)
  unfolding changed
  changed-roomier a b n e =
      let kept = take r.interface right.nodes in
      let l = edges_go r p ++ nodes_change kept (take (left_nodes r) p) in
      let s = stores-roomier a b l g (left-inside r p kept g.host m) in
      rw (s, add_nodes-roomier a b (drop r.interface right.nodes) (after_left r p right g) (new-room n))
      (add_edges-roomier a b _ right.edges (after_new r p right g).ledger (edge-room e))

-- Applying.

abbrev pub roomier_applied : ℕ → ℕ → Applied → Applied
roomier_applied a b (applied g) = applied (roomier_ledger a b g)
roomier_applied a b (hindered w) = hindered w

-- no want of slots or records, nor of atoms in a label where labels hold more of them
module _ (most most' : ℕ) where
  abbrev pub HasRoom : Stop → Type 0
  HasRoom OutOfFuel = Unit {0}
  HasRoom NoNodeRoom = ⊥
  HasRoom NoEdgeRoom = ⊥
  HasRoom NoRecordRoom = ⊥
  HasRoom LabelTooLarge = most ≡ most'

  abbrev pub AppliedWithRoom : Applied → Type 0
  AppliedWithRoom (applied g) = Unit {0}
  AppliedWithRoom (hindered w) = HasRoom w

module _ (most most' room room' a b : ℕ) (larger : most ≤ most') (more : room ≤ room') (r : Rule) (p : List ℕ) (g : Ledger)
    (m : Match g.host r p)
  where
    abbrev large : Ledger
    large = roomier_ledger a b g

    values : right_side most' large.host r p ≡ right_side most' g.host r p
    values = sym (right_side-alike g.host large.host (roomier-alike a b g.host) most' r p)

    -- what hinders it hinders it
    hindered-by : (w : Stop) → hindrance most room r p g ≡ some w → AppliedWithRoom most most' (apply most room r p g)
        → HasRoom most most' w
    unfolding apply unhindered
    hindered-by w e h = rw e at h

    apply-none : most ≡ most' → right_side most g.host r p ≡ none
        → apply most' room' r p large ≡ roomier_applied a b (apply most room r p g)
    unfolding apply unhindered
    apply-none s q =
        let v = values ∙ ap (λ (n : ℕ). right_side n g.host r p) (sym s) ∙ q in
        rw (labels-first most' room' r p large v, labels-first most room r p g q)

    apply_some : (right : Right) → right_side most g.host r p ≡ some right
        → new_nodes r ≤ free_slots g.host.nodes + gone_nodes r
        → length r.right.edges ≤ free_slots g.host.edges + left_edges r → length g.journal + records_of r ≤ room
        → apply most' room' r p large ≡ roomier_applied a b (apply most room r p g)
    unfolding apply unhindered
    apply_some right q n e j =
        let x = further-free a g.host.nodes in
        let y = further-free b g.host.edges in
        let v = values ∙ right_side_larger most most' larger g.host r p right q in
        let free-small = unhindered-of most room r p g right q n e j in
        let free-large = unhindered-of most' room' r p large right v (omega arith) (omega arith) (omega arith) in
        rw (free-small, q, free-large, v, changed-roomier most r p right g m q a b n e)

    pub apply-roomier : AppliedWithRoom most most' (apply most room r p g)
        → apply most' room' r p large ≡ roomier_applied a b (apply most room r p g)
    apply-roomier h = at (right_side most g.host r p) refl
      where
        enough : (right : Right) → right_side most g.host r p ≡ some right
            → Dec (new_nodes r ≤ free_slots g.host.nodes + gone_nodes r)
            → Dec (length r.right.edges ≤ free_slots g.host.edges + left_edges r)
            → Dec (length g.journal + records_of r ≤ room)
            → apply most' room' r p large ≡ roomier_applied a b (apply most room r p g)
        enough right q (yes n) (yes e) (yes j) = apply_some right q n e j
        enough right q (yes n) (yes e) (no j) =
            absurd (hindered-by NoRecordRoom (records-last most room r p g right q n e (omega arith)) h)
        enough right q (yes n) (no e) j =
            absurd (hindered-by NoEdgeRoom (edges_third most room r p g right q n (omega arith)) h)
        enough right q (no n) e j = absurd (hindered-by NoNodeRoom (nodes-second most room r p g right q (omega arith)) h)

        at : (o : Option Right) → right_side most g.host r p ≡ o
            → apply most' room' r p large ≡ roomier_applied a b (apply most room r p g)
        at none q = apply-none (hindered-by LabelTooLarge (labels-first most room r p g q) h) q
        at (some right) q = enough right q (dec_le _ _) (dec_le _ _) (dec_le _ _)
