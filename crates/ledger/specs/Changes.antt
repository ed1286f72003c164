-- Laws of the changes of an application, one more at a time: what goes, what changes, what comes. Rests on Running and on the
-- meaning's Applying.
use Rattle.std.specs.Prelude.{◌≡◌, refl, List, [], ◌∷◌, ◌++◌, map, ℕ, ◌+◌, ◌<◌, ◌≤◌, ◌/◌, length, get_or, take, drop}
use Rattle.std.proofs.Common.{sym, ◌∙◌, ap, div-le_self, add-one, arith, length-drop, take-suc, get_or-drop, length-take-le}
use Rattle.std.proofs.lemmas.List.{map-append}
use Rattle.meaning.specs.Layout.{Slot, Node, Edge, free, live, Change, of_node, of_edge, node_length, edge_length, record_length, read_nodes, read_edges}
use Rattle.meaning.specs.Applying.{Ledger, store, stores, lowest_free, free_slots, nodes_change, Added, add_nodes, between, add_edges}
use Rattle.meaning.specs.Laws.Applying.{stores_append}
use Rattle.meaning.proofs.Laws.Room.{add_nodes-free, add_edges-free}
use Rattle.meaning.specs.declared.Layout.{Layout}
use Rattle.ledger.specs.Running.{ledger_of, Held, Leads}

-- The bytes hold the ledger g, in tables and a journal that are as long as those at the start.
module _ (L : Layout) where
  pub record Went (g : Ledger) (nodes₀ edges₀ journal₀ nodes edges journal : List ℕ) (used : ℕ) : Type 0 where
    pub leads : Leads L g nodes edges journal used
    pub nodes_long : length nodes ≡ length nodes₀
    pub edges_long : length edges ≡ length edges₀
    pub journal_long : length journal ≡ length journal₀

  pub went-none : (nodes edges journal : List ℕ) (used : ℕ) → Held L nodes edges journal used
      → Went (ledger_of L nodes edges journal used) nodes edges journal nodes edges journal used
  went-none nodes edges journal used h =
      record { leads = record { ledger = refl; held = h }; nodes_long = refl; edges_long = refl; journal_long = refl }

  -- one change more
  pub went-more : (c : Change (Slot Node) (Slot Edge)) (g g' : Ledger) (nodes₀ edges₀ journal₀ nodes edges journal nodes' edges' journal' : List ℕ) (used used' : ℕ)
      → Went g nodes₀ edges₀ journal₀ nodes edges journal used
      → Leads L (store c (ledger_of L nodes edges journal used)) nodes' edges' journal' (used + 1)
      → length nodes' ≡ length nodes → length edges' ≡ length edges → length journal' ≡ length journal
      → g' ≡ store c g → used' ≡ used + 1
      → Went g' nodes₀ edges₀ journal₀ nodes' edges' journal' used'
  went-more c g g' nodes₀ edges₀ journal₀ nodes edges journal nodes' edges' journal' used used' w l a b d e f =
      rw (e, f)
      (record {
        leads = record { ledger = l.ledger ∙ ap (store c) w.leads.ledger; held = l.held };
        nodes_long = a ∙ w.nodes_long;
        edges_long = b ∙ w.edges_long;
        journal_long = d ∙ w.journal_long;
      })

stores_one : (l : List (Change (Slot Node) (Slot Edge))) (c : Change (Slot Node) (Slot Edge)) (g : Ledger)
    → stores (l ++ (c ∷ [])) g ≡ store c (stores l g)
unfolding stores
stores_one l c g = stores_append l (c ∷ []) g

-- the m numbers of the list from number n on are below a bound
abbrev pub Below : ℕ → List ℕ → ℕ → ℕ → Type 0
Below bound s n m = (k : ℕ) → k < m → get_or s (n + k) 0 < bound

-- Edges go.

abbrev pub goes : List ℕ → List (Change (Slot Node) (Slot Edge))
goes l = map (λ x. of_edge x free) l

pub goes_none : (l : List ℕ) (g : Ledger) → stores (goes (take 0 l)) g ≡ g
unfolding stores
goes_none l g = refl

pub goes-more : (s : List ℕ) (n k : ℕ) (g : Ledger) → n + k < length s
    → stores (goes (take (k + 1) (drop n s))) g ≡ store (of_edge (get_or s (n + k) 0) free) (stores (goes (take k (drop n s))) g)
goes-more s n k g h =
    let j : k < length (drop n s) = rw length-drop (omega arith) in
    rw (add-one k, take-suc (drop n s) k 0 j, map-append, get_or-drop n s k 0) (stores_one (goes (take k (drop n s))) _ g)

-- Nodes change: those that have a right node take its values, the others go.

-- what node k becomes
abbrev pub becomes : List Node → ℕ → Slot Node
becomes ns k = get_or (map live ns) k free

nodes_change_nil : (ns : List Node) → nodes_change ns [] ≡ []
unfolding nodes_change
nodes_change_nil [] = refl
nodes_change_nil (n ∷ ns) = refl

nodes_change-one : (ns : List Node) (l : List ℕ) (x : ℕ)
    → nodes_change ns (l ++ (x ∷ [])) ≡ nodes_change ns l ++ (of_node x (becomes ns (length l)) ∷ [])
unfolding nodes_change
nodes_change-one [] [] x = refl
nodes_change-one [] (y ∷ l) x = ap (λ (m : List (Change (Slot Node) (Slot Edge))). of_node y free ∷ m) (nodes_change-one [] l x)
nodes_change-one (n ∷ ns) [] x = ap (λ (m : List (Change (Slot Node) (Slot Edge))). of_node x (live n) ∷ m) (nodes_change_nil ns)
nodes_change-one (n ∷ ns) (y ∷ l) x = ap (λ (m : List (Change (Slot Node) (Slot Edge))). of_node y (live n) ∷ m) (nodes_change-one ns l x)

pub change-none : (ns : List Node) (l : List ℕ) (g : Ledger) → stores (nodes_change ns (take 0 l)) g ≡ g
unfolding stores
change-none ns l g = rw (nodes_change_nil ns)

pub change-more : (ns : List Node) (s : List ℕ) (k : ℕ) (g : Ledger) → k < length s
    → stores (nodes_change ns (take (k + 1) s)) g ≡ store (of_node (get_or s k 0) (becomes ns k)) (stores (nodes_change ns (take k s)) g)
change-more ns s k g h =
    let e : length (take k s) ≡ k = length-take-le k s (omega arith) in
    rw (add-one k, take-suc s k 0 h, nodes_change-one ns (take k s) (get_or s k 0), e) (stores_one (nodes_change ns (take k s)) _ g)

-- Nodes come.

pub come-none : (l : List Node) (g : Ledger) → add_nodes (take 0 l) g ≡ record { ledger = g; slots = [] }
unfolding add_nodes
come-none l g = refl

come-one : (l : List Node) (n : Node) (g : Ledger)
    → add_nodes (l ++ (n ∷ [])) g
    ≡ (let a : Added = add_nodes l g in
    let x : ℕ = lowest_free a.ledger.host.nodes in
    record { ledger = store (of_node x (live n)) a.ledger; slots = a.slots ++ (x ∷ []) })
unfolding add_nodes
come-one [] n g = refl
come-one (m ∷ l) n g =
    let x : ℕ = lowest_free g.host.nodes in
    ap (λ (a : Added). record { ledger = a.ledger; slots = x ∷ a.slots }) (come-one l n (store (of_node x (live m)) g))

-- Edges come.

pub edges_none : (slots : List ℕ) (l : List Edge) (g : Ledger) → add_edges slots (take 0 l) g ≡ g
unfolding add_edges
edges_none slots l g = refl

edges-one : (slots : List ℕ) (l : List Edge) (e : Edge) (g : Ledger)
    → add_edges slots (l ++ (e ∷ [])) g
    ≡ store (of_edge (lowest_free (add_edges slots l g).host.edges) (live (between slots e))) (add_edges slots l g)
unfolding add_edges
edges-one slots [] e g = refl
edges-one slots (d ∷ l) e g = edges-one slots l e (store (of_edge (lowest_free g.host.edges) (live (between slots d))) g)

module _ (k : ℕ) (g : Ledger) where
  pub come-more : (l : List Node) (d : Node) → k < length l
      → add_nodes (take (k + 1) l) g
      ≡ (let a : Added = add_nodes (take k l) g in
      let x : ℕ = lowest_free a.ledger.host.nodes in
      record { ledger = store (of_node x (live (get_or l k d))) a.ledger; slots = a.slots ++ (x ∷ []) })
  come-more l d h = rw (add-one k, take-suc l k d h) (come-one (take k l) (get_or l k d) g)

  pub edges_more : (slots : List ℕ) (l : List Edge) (d : Edge) → k < length l
      → add_edges slots (take (k + 1) l) g
      ≡ store (of_edge (lowest_free (add_edges slots (take k l) g).host.edges) (live (between slots (get_or l k d)))) (add_edges slots (take k l) g)
  edges_more slots l d h = rw (add-one k, take-suc l k d h) (edges-one slots (take k l) (get_or l k d) g)

-- Loops over the changes.

-- the quotient is no more than the number
pub quotient_le : (a n w : ℕ) → a ≤ n / w → a ≤ n
quotient_le a n w h = omega (arith, div-le_self n w)

module _ (L : Layout) (nodes edges₀ journal₀ : List ℕ) (used : ℕ) (slots : List ℕ) (n : ℕ) where
  -- k edges are gone
  abbrev pub Going : ℕ → List ℕ → List ℕ → Type 0
  Going k edges journal =
      Went L (stores (goes (take k (drop n slots))) (ledger_of L nodes edges₀ journal₀ used)) nodes edges₀ journal₀ nodes edges journal (used + k)

  pub going_none : Held L nodes edges₀ journal₀ used → Going 0 edges₀ journal₀
  going_none h =
      let e : used + 0 ≡ used = omega arith in
      rw (goes_none (drop n slots) (ledger_of L nodes edges₀ journal₀ used), e) (went-none L nodes edges₀ journal₀ used h)

  module _ (k : ℕ) (edges journal : List ℕ) (w : Going k edges journal) where
    -- the next slot is in the table, and there is room for its record
    pub going_next : (m : ℕ) → k < m → Below (length edges₀ / edge_length L) slots n m → used + m ≤ length journal₀ / record_length L
        → Held L nodes edges journal (used + k)
        × ((get_or slots (n + k) 0 < length edges / edge_length L) × (used + k < length journal / record_length L))
    going_next m h b r =
        (w.leads.held, (rw w.edges_long (b k h), rw w.journal_long (omega arith)))

    pub going_more : (edges' journal' : List ℕ) → n + k < length slots
        → Leads L (store (of_edge (get_or slots (n + k) 0) free) (ledger_of L nodes edges journal (used + k))) nodes edges' journal' (used + k + 1)
        → length edges' ≡ length edges → length journal' ≡ length journal
        → Going (k + 1) edges' journal'
    going_more edges' journal' h l a b =
        went-more L (of_edge (get_or slots (n + k) 0) free) _ _ nodes edges₀ journal₀ nodes edges journal nodes edges' journal' (used + k) (used + (k + 1)) w l refl a b
        (goes-more slots n k (ledger_of L nodes edges₀ journal₀ used) h) (omega arith)

-- k of the nodes at the slots have changed, to the values ns or to nothing
module _ (L : Layout) (nodes₀ edges journal₀ : List ℕ) (used : ℕ) (slots : List ℕ) (ns : List Node) where
  abbrev pub Changing : ℕ → List ℕ → List ℕ → Type 0
  Changing k nodes journal =
      Went L (stores (nodes_change ns (take k slots)) (ledger_of L nodes₀ edges journal₀ used)) nodes₀ edges journal₀ nodes edges journal (used + k)

  pub changing_none : Held L nodes₀ edges journal₀ used → Changing 0 nodes₀ journal₀
  changing_none h =
      let e : used + 0 ≡ used = omega arith in
      rw (change-none ns slots (ledger_of L nodes₀ edges journal₀ used), e) (went-none L nodes₀ edges journal₀ used h)

  module _ (k : ℕ) (nodes journal : List ℕ) (w : Changing k nodes journal) where
    -- the next slot is in the table, and there is room for its record
    pub changing_next : (m : ℕ) → k < m → Below (length nodes₀ / node_length L) slots 0 m → used + m ≤ length journal₀ / record_length L
        → Held L nodes edges journal (used + k)
        × ((get_or slots k 0 < length nodes / node_length L) × (used + k < length journal / record_length L))
    changing_next m h b r =
        let e : 0 + k ≡ k = omega arith in
        (w.leads.held, (rw w.nodes_long (rw e at (b k h)), rw w.journal_long (omega arith)))

    pub changing_more : (nodes' journal' : List ℕ) → k < length slots
        → Leads L (store (of_node (get_or slots k 0) (becomes ns k)) (ledger_of L nodes edges journal (used + k))) nodes' edges journal' (used + k + 1)
        → length nodes' ≡ length nodes → length journal' ≡ length journal
        → Changing (k + 1) nodes' journal'
    changing_more nodes' journal' h l a b =
        went-more L (of_node (get_or slots k 0) (becomes ns k)) _ _ nodes₀ edges journal₀ nodes edges journal nodes' edges journal' (used + k) (used + (k + 1)) w l a refl b
        (change-more ns slots k (ledger_of L nodes₀ edges journal₀ used) h) (omega arith)

-- k of the nodes ns have come
module _ (L : Layout) (nodes₀ edges journal₀ : List ℕ) (used : ℕ) (ns : List Node) where
  abbrev pub coming : ℕ → Added
  coming k = add_nodes (take k ns) (ledger_of L nodes₀ edges journal₀ used)

  abbrev pub Coming : ℕ → List ℕ → List ℕ → Type 0
  Coming k nodes journal = Went L (coming k).ledger nodes₀ edges journal₀ nodes edges journal (used + k)

  pub coming-none : Held L nodes₀ edges journal₀ used → Coming 0 nodes₀ journal₀
  coming-none h =
      let e : used + 0 ≡ used = omega arith in
      rw (come-none ns (ledger_of L nodes₀ edges journal₀ used), e) (went-none L nodes₀ edges journal₀ used h)

  module _ (k : ℕ) (nodes journal : List ℕ) (w : Coming k nodes journal) where
    -- there is a free slot and room for a record
    pub coming-next : k < length ns → length ns ≤ free_slots (read_nodes L nodes₀) → used + length ns ≤ length journal₀ / record_length L
        → Held L nodes edges journal (used + k)
        × ((0 < free_slots (read_nodes L nodes)) × (used + k < length journal / record_length L))
    coming-next h r t =
        let a : length (take k ns) ≡ k = length-take-le k ns (omega arith) in
        let f = add_nodes-free (take k ns) (ledger_of L nodes₀ edges journal₀ used) (omega arith) in
        let e = ap (λ (g : Ledger). free_slots g.host.nodes) w.leads.ledger in
        (w.leads.held, (omega arith, rw w.journal_long (omega arith)))

    pub coming-more : (x : ℕ) (d : Node) (nodes' journal' : List ℕ) → k < length ns
        → x ≡ lowest_free (read_nodes L nodes)
        → Leads L (store (of_node x (live (get_or ns k d))) (ledger_of L nodes edges journal (used + k))) nodes' edges journal' (used + k + 1)
        → length nodes' ≡ length nodes → length journal' ≡ length journal
        → Coming (k + 1) nodes' journal' × ((coming (k + 1)).slots ≡ (coming k).slots ++ (x ∷ []))
    coming-more x d nodes' journal' h q l a b =
        let f : x ≡ lowest_free (coming k).ledger.host.nodes = q ∙ ap (λ (g : Ledger). lowest_free g.host.nodes) w.leads.ledger in
        let m = come-more k (ledger_of L nodes₀ edges journal₀ used) ns d h in (
          went-more L (of_node x (live (get_or ns k d))) _ _ nodes₀ edges journal₀ nodes edges journal nodes' edges journal' (used + k) (used + (k + 1)) w l a refl b
              (ap (λ (u : Added). u.ledger) m ∙ ap (λ (y : ℕ). store (of_node y (live (get_or ns k d))) (coming k).ledger) (sym f)) (omega arith),
          ap (λ (u : Added). u.slots) m ∙ ap (λ (y : ℕ). (coming k).slots ++ (y ∷ [])) (sym f),
        )

-- k of the edges es have come, between the slots
module _ (L : Layout) (nodes edges₀ journal₀ : List ℕ) (used : ℕ) (slots : List ℕ) (es : List Edge) where
  abbrev pub Joining : ℕ → List ℕ → List ℕ → Type 0
  Joining k edges journal =
      Went L (add_edges slots (take k es) (ledger_of L nodes edges₀ journal₀ used)) nodes edges₀ journal₀ nodes edges journal (used + k)

  pub joining_none : Held L nodes edges₀ journal₀ used → Joining 0 edges₀ journal₀
  joining_none h =
      let e : used + 0 ≡ used = omega arith in
      rw (edges_none slots es (ledger_of L nodes edges₀ journal₀ used), e) (went-none L nodes edges₀ journal₀ used h)

  module _ (k : ℕ) (edges journal : List ℕ) (w : Joining k edges journal) where
    pub joining_next : k < length es → length es ≤ free_slots (read_edges L edges₀) → used + length es ≤ length journal₀ / record_length L
        → Held L nodes edges journal (used + k)
        × ((0 < free_slots (read_edges L edges)) × (used + k < length journal / record_length L))
    joining_next h r t =
        let a : length (take k es) ≡ k = length-take-le k es (omega arith) in
        let f = add_edges-free slots (take k es) (ledger_of L nodes edges₀ journal₀ used) (omega arith) in
        let e = ap (λ (g : Ledger). free_slots g.host.edges) w.leads.ledger in
        (w.leads.held, (omega arith, rw w.journal_long (omega arith)))

    pub joining_more : (x : ℕ) (d : Edge) (edges' journal' : List ℕ) → k < length es
        → x ≡ lowest_free (read_edges L edges)
        → Leads L (store (of_edge x (live (between slots (get_or es k d)))) (ledger_of L nodes edges journal (used + k))) nodes edges' journal' (used + k + 1)
        → length edges' ≡ length edges → length journal' ≡ length journal
        → Joining (k + 1) edges' journal'
    joining_more x d edges' journal' h q l a b =
        let f : x ≡ lowest_free (add_edges slots (take k es) (ledger_of L nodes edges₀ journal₀ used)).host.edges =
        q ∙ ap (λ (g : Ledger). lowest_free g.host.edges) w.leads.ledger in
        went-more L (of_edge x (live (between slots (get_or es k d)))) _ _ nodes edges₀ journal₀ nodes edges journal nodes edges' journal' (used + k) (used + (k + 1)) w l refl a b
        (edges_more k (ledger_of L nodes edges₀ journal₀ used) slots es d h
        ∙ ap (λ (y : ℕ). store (of_edge y (live (between slots (get_or es k d)))) (add_edges slots (take k es) (ledger_of L nodes edges₀ journal₀ used))) (sym f)) (omega arith)
