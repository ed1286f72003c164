-- Legality: applying a rule at a match keeps the host and the journal legal. Rests on the meaning's Laws/Applying,
-- Laws/Room and Laws/Attached, and on Values, Records and Restoring.
use Prim.Native.Nat.{ℕ, zero, suc, ◌+◌, ◌^◌, ◌<◌, ◌≤◌}
use Rattle.std.specs.Prelude.{◌≡◌, length, get_or, take, drop}
use Rattle.std.proofs.Common.{◌∙◌, length-take, length-drop, get_or-take, get_or-drop}
use mathlib.Core.List.{List, [], ◌∷◌, ◌++◌, map}
use Rattle.std.proofs.Math.Option.{some}
use native.Mathlib.Omega.{arith}
use Rattle.std.proofs.Math.ListN.{length-set}
use Rattle.meaning.specs.Layout.{Slot, free, live, Node, Edge, Change, of_node, of_edge, put}
use Rattle.meaning.specs.Image.{Rule}
use Rattle.meaning.specs.Matching.{left_nodes, left_edges, Match}
use Rattle.meaning.specs.Applying.{Right, right_side, Ledger, standing, store, stores, lowest_free, free_slots, edges_go, nodes_change, add_nodes, between, add_edges, changed, new_nodes, gone_nodes, applied, apply}
use Rattle.meaning.specs.Laws.Every.{Every, Every-then}
use Rattle.laws.specs.Hosts.{LegalNode, LegalEdge, LegalHost}
use Rattle.laws.specs.Records.{LegalChange, Within, Every-append}
use Rattle.laws.specs.FirstMatch.{node-inside, edge-inside}
use Rattle.meaning.specs.Laws.Slots.{lowest_free_lt, OnLive, live_at_lt, OnLive-set}
use Rattle.meaning.proofs.Laws.Slots.{come-free}
use Rattle.meaning.specs.Laws.Applying.{right_side-some, apply-applied}
use Rattle.laws.specs.Restoring.{from-nodes, changed-from}
use Rattle.meaning.specs.Laws.Room.{after_left, after_new, changed-is, after_left-nodes, after_left-edges, add_nodes-edges}
use Rattle.meaning.specs.Laws.Interface.{interface-left, interface-right}
use Rattle.laws.specs.Values.{LegalRule, LegalValue, LegalRight, right_side-legal}
use Rattle.meaning.specs.Laws.Attached.{nodes_after, right_slots}
use Rattle.meaning.proofs.Laws.Attached.{between_attached, all_attached}
use Rattle.meaning.specs.declared.Layout.{Layout}

-- Statements of each element of a list.

Every-below : {A : Type 0} (P : A → Type 0) (d : A) (l : List A) → ((i : ℕ) → i < length l → P (get_or l i d)) → Every P l
Every-below P d [] h = tt
Every-below P d (a ∷ l) h = (h 0 (omega arith), Every-below P d l (λ i k. h (suc i) (omega arith)))

Every-take : {A : Type 0} (P : A → Type 0) (n : ℕ) (l : List A) → Every P l → Every P (take n l)
Every-take P zero l h = tt
Every-take P (suc n) [] h = tt
Every-take P (suc n) (a ∷ l) h = (h.0, Every-take P n l h.1)

Every-drop : {A : Type 0} (P : A → Type 0) (n : ℕ) (l : List A) → Every P l → Every P (drop n l)
Every-drop P zero l h = h
Every-drop P (suc n) [] h = tt
Every-drop P (suc n) (a ∷ l) h = Every-drop P n l h.1

-- A ledger over tables of m node slots and n edge slots: its slots and its records are legal.
record LegalSlots (L : Layout) (m n : ℕ) (g : Ledger) : Type 0 where
  node_slots : length g.host.nodes ≡ m
  edge_slots : length g.host.edges ≡ n
  nodes : (i : ℕ) → OnLive (LegalNode L) (get_or g.host.nodes i free)
  edges : (i : ℕ) → OnLive (LegalEdge L) (get_or g.host.edges i free)
  records : Every (LegalChange L) g.journal
  within : Every (Within m n) g.journal

-- and both ends of every edge are live
pub record LegalLedger (L : Layout) (m n : ℕ) (g : Ledger) : Type 0 where
  pub nodes : length g.host.nodes ≡ m
  pub edges : length g.host.edges ≡ n
  pub host : LegalHost L g.host
  pub records : Every (LegalChange L) g.journal
  pub within : Every (Within m n) g.journal

-- the rule r can be applied at the match p to the ledger g, and gives `right`
pub record Ready (most : ℕ) (r : Rule) (p : List ℕ) (g : Ledger) (right : Right) : Type 0 where
  pub match : Match g.host r p
  pub values : right_side most g.host r p ≡ some right
  pub node_room : new_nodes r ≤ free_slots g.host.nodes + gone_nodes r
  pub edge_room : length r.right.edges ≤ free_slots g.host.edges + left_edges r

module _ (L : Layout) (m n : ℕ) (few_nodes : m ≤ 256 ^ L.width) (few_edges : n ≤ 256 ^ L.width) where
  -- One change with its record.

  abbrev Fits : Change (Slot Node) (Slot Edge) → Type 0
  Fits c = LegalChange L c × Within m n c

  node-fits : (i : ℕ) (s : Slot Node) → i < m → OnLive (LegalNode L) s → Fits (of_node i s)
  unfolding LegalChange Within
  node-fits i s h k = ((omega arith, k), h)

  edge-fits : (i : ℕ) (s : Slot Edge) → i < n → OnLive (LegalEdge L) s → Fits (of_edge i s)
  unfolding LegalChange Within
  edge-fits i s h k = ((omega arith, k), h)

  store-legal : (c : Change (Slot Node) (Slot Edge)) (g : Ledger) → Fits c → LegalSlots L m n g → LegalSlots L m n (store c g)
  unfolding store put standing LegalChange Within
  store-legal (of_node i s) g f k =
      record {
        node_slots = length-set g.host.nodes i s ∙ k.node_slots;
        edge_slots = k.edge_slots;
        nodes = OnLive-set (LegalNode L) g.host.nodes i s f.0.1 k.nodes;
        edges = k.edges;
        records = ((f.0.0, k.nodes i), k.records);
        within = (f.1, k.within);
      }
  store-legal (of_edge i s) g f k =
      record {
        node_slots = k.node_slots;
        edge_slots = length-set g.host.edges i s ∙ k.edge_slots;
        nodes = k.nodes;
        edges = OnLive-set (LegalEdge L) g.host.edges i s f.0.1 k.edges;
        records = ((f.0.0, k.edges i), k.records);
        within = (f.1, k.within);
      }

  -- The changes of an application.

  stores-legal : (cs : List (Change (Slot Node) (Slot Edge))) (g : Ledger) → Every Fits cs → LegalSlots L m n g
      → LegalSlots L m n (stores cs g)
  unfolding stores
  stores-legal [] g f k = k
  stores-legal (c ∷ cs) g f k = stores-legal cs (store c g) f.1 (store-legal c g f.0 k)

  edges_go-fits : (l : List ℕ) → Every (λ x. x < n) l → Every Fits (map (λ x. of_edge x free) l)
  edges_go-fits [] h = tt
  edges_go-fits (x ∷ l) h = (edge-fits x free h.0 tt, edges_go-fits l h.1)

  nodes_change-fits : (ns : List Node) (l : List ℕ) → Every (LegalNode L) ns → Every (λ x. x < m) l → Every Fits (nodes_change ns l)
  unfolding nodes_change
  nodes_change-fits [] [] k h = tt
  nodes_change-fits [] (x ∷ l) k h = (node-fits x free h.0 tt, nodes_change-fits [] l k h.1)
  nodes_change-fits (a ∷ ns) [] k h = tt
  nodes_change-fits (a ∷ ns) (x ∷ l) k h = (node-fits x (live a) h.0 k.0, nodes_change-fits ns l k.1 h.1)

  add_nodes-legal : (l : List Node) (g : Ledger) → Every (LegalNode L) l → length l ≤ free_slots g.host.nodes
      → LegalSlots L m n g → LegalSlots L m n (add_nodes l g).ledger
  unfolding add_nodes store put
  add_nodes-legal [] g h room k = k
  add_nodes-legal (a ∷ l) g h room k =
      let x : ℕ = lowest_free g.host.nodes in
      let low = lowest_free_lt g.host.nodes (omega arith) in
      let size = k.node_slots in
      let f = come-free g.host.nodes a (omega arith) in
      add_nodes-legal l (store (of_node x (live a)) g) h.1 (omega arith)
      (store-legal (of_node x (live a)) g (node-fits x (live a) (omega arith) h.0) k)

  add_edges-legal : (slots : List ℕ) (l : List Edge) (g : Ledger) → Every (λ e. LegalEdge L (between slots e)) l
      → length l ≤ free_slots g.host.edges → LegalSlots L m n g → LegalSlots L m n (add_edges slots l g)
  unfolding add_edges store put
  add_edges-legal slots [] g h room k = k
  add_edges-legal slots (e ∷ l) g h room k =
      let x : ℕ = lowest_free g.host.edges in
      let low = lowest_free_lt g.host.edges (omega arith) in
      let size = k.edge_slots in
      let f = come-free g.host.edges (between slots e) (omega arith) in
      add_edges-legal slots l (store (of_edge x (live (between slots e))) g) h.1 (omega arith)
      (store-legal (of_edge x (live (between slots e))) g (edge-fits x (live (between slots e)) (omega arith) h.0) k)

  module _ (r : Rule) (rule : LegalRule r) (p : List ℕ) (g : Ledger) (legal : LegalLedger L m n g) (right : Right)
      (ready : Ready L.atoms r p g right)
    where
      sizes : (length right.nodes ≡ length r.right.nodes) × (length right.edges ≡ length r.right.edges)
      sizes = right_side-some L.atoms g.host r p right ready.values

      kept : r.interface ≤ length right.nodes
      kept = let t = interface-right r rule.holds in omega (arith, sizes.0)

      room-nodes : length (drop r.interface right.nodes) ≤ free_slots (after_left r p right g).host.nodes
      room-nodes =
          let k = after_left-nodes r p right g ready.match in
          let l = length-drop r.interface right.nodes in
          let q = ready.node_room in
          omega (arith, sizes.0)

      room-edges : length right.edges ≤ free_slots (after_new r p right g).ledger.host.edges
      room-edges =
          let k = after_left-edges r p right g ready.match in
          let q = ready.edge_room in
          rw add_nodes-edges (omega (arith, sizes.1))

      values-legal : LegalRight L right
      values-legal = right_side-legal L g.host legal.host r rule p right ready.values

      -- a right edge between its slots
      pub between-legal : (e : Edge) → LegalValue L (length right.nodes) e → LegalEdge L (between (right_slots r p right g) e)
      between-legal e h =
          let a = between_attached r p right g ready.match (interface-left r rule.holds) kept room-nodes e (h.source, h.target) in
          let q = from-nodes g (changed r p right g) (changed-from r p right g) in
          let z = legal.nodes in
          record {
            mark = h.mark;
            source = omega (arith, live_at_lt (nodes_after r p right g) _ a.source);
            target = omega (arith, live_at_lt (nodes_after r p right g) _ a.target);
            size = h.size;
            words = h.words;
          }

      changed-slots : LegalSlots L m n (changed r p right g)
      changed-slots =
          rw (changed-is r p right g)
          (add_edges-legal (right_slots r p right g) right.edges (after_new r p right g).ledger
          (Every-then _ _ between-legal right.edges values-legal.edges) room-edges
          (add_nodes-legal (drop r.interface right.nodes) (after_left r p right g)
          (Every-drop (LegalNode L) r.interface right.nodes values-legal.nodes) room-nodes
          (stores-legal (edges_go r p ++ nodes_change (take r.interface right.nodes) (take (left_nodes r) p)) g
          (Every-append Fits (edges_go r p) (nodes_change (take r.interface right.nodes) (take (left_nodes r) p))
          (edges_go-fits (drop (left_nodes r) p) edges_in)
          (nodes_change-fits (take r.interface right.nodes) (take (left_nodes r) p)
          (Every-take (LegalNode L) r.interface right.nodes values-legal.nodes) nodes_in))
          (record {
            node_slots = legal.nodes;
            edge_slots = legal.edges;
            nodes = legal.host.nodes;
            edges = legal.host.edges;
            records = legal.records;
            within = legal.within;
          }))))
        where
          nodes_in : Every (λ x. x < m) (take (left_nodes r) p)
          nodes_in =
              let k = length-take (left_nodes r) p in
              let z = legal.nodes in
              Every-below _ 0 (take (left_nodes r) p)
              (λ i l. rw (get_or-take (left_nodes r) p i 0 (omega arith)) (omega (arith, node-inside g.host r p ready.match i (omega arith))))

          edges_in : Every (λ x. x < n) (drop (left_nodes r) p)
          edges_in =
              let k = length-drop (left_nodes r) p in
              let z = legal.edges in
              let y = ready.match.size in
              Every-below _ 0 (drop (left_nodes r) p)
              (λ i l. rw (get_or-drop (left_nodes r) p i 0) (omega (arith, edge-inside g.host r p ready.match i (omega arith))))

      -- the changes keep the ledger legal
      pub changed-legal : LegalLedger L m n (changed r p right g)
      changed-legal =
          let s = changed-slots in
          record {
            nodes = s.node_slots;
            edges = s.edge_slots;
            host = record {
              nodes = s.nodes;
              edges = s.edges;
              ends =
                  all_attached r p right g ready.match (interface-left r rule.holds) kept room-nodes legal.host.ends
                  (Every-then _ _ (λ e h. (h.source, h.target)) right.edges values-legal.edges);
            };
            records = s.records;
            within = s.within;
          }

-- Applying.

module _ (L : Layout) (m n : ℕ) (few_nodes : m ≤ 256 ^ L.width) (few_edges : n ≤ 256 ^ L.width) where
  module _ (room : ℕ) (r : Rule) (rule : LegalRule r) (p : List ℕ) (g : Ledger) (legal : LegalLedger L m n g) (match : Match g.host r p) where
    pub apply-legal : (g' : Ledger) → apply L.atoms room r p g ≡ applied g' → LegalLedger L m n g'
    apply-legal g' e =
        let a = apply-applied L.atoms room r p g g' e in
        rw a.changes
        (changed-legal L m n few_nodes few_edges r rule p g legal a.right
        (record { match = match; values = a.values; node_room = a.node_room; edge_room = a.edge_room }))
