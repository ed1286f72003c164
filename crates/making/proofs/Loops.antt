-- Laws of the loops of an application: what each step is handed, and what it leaves. Rests on Items and on ledger's Changes.
use mathlib.Core.Path.{◌≡◌, refl, sym, ◌∙◌, ap, subst}
use mathlib.Core.Bool.{Bool}
use mathlib.Core.Option.{some}
use mathlib.Core.List.{List, [], ◌∷◌, ◌++◌, append_assoc, append-nil}
use Prim.Native.Nat.{ℕ, suc, ◌+◌, ◌/◌, ◌<◌, ◌≤◌}
use native.Mathlib.Omega.{arith}
use lib.ListN.{length, get_or, set, take, drop, length-take, length-drop}
use lib.Seq.{get_or-set_other, get_or-take, get_or-drop, take-suc-set, take_all}
use lib.Dec.{eqb}
use Rattle.meaning.specs.Basics.{choose}
use Rattle.meaning.specs.Layout.{Slot, Node, Edge, free, live, of_node, of_edge, put, is_live, node_length, record_length, read_nodes, read_edges}
use Rattle.meaning.specs.Image.{RuleNode, RuleEdge, rule_node, rule_edge, rule_graph, most_items}
use Rattle.meaning.specs.Tags.{any_mark}
use Rattle.meaning.specs.Matching.{node_in, node_at, node_slot}
use Rattle.meaning.specs.Applying.{Ledger, store, stores, nodes_change, lowest_free, free_slots, between, add_edges}
use Rattle.meaning.specs.Laws.Tests.{choose_lt}
use Rattle.fields.specs.Parsed.{rule_node-is}
use Rattle.meaning.specs.declared.Layout.{Layout}
use Rattle.parts.specs.Series.{For}
use Rattle.ledger.specs.Running.{ledger_of, Held, Leads}
use Rattle.ledger.specs.Changes.{Went, becomes, Changing, changing_none, changing_next, changing_more, coming, Coming, coming-none, coming-next, coming-more, come-none, Joining, joining_none, joining_next, joining_more}
use Rattle.making.specs.Making.{blank_rule, blank_rule_edge, blank_node, blank_edge, KeepsRoot, Takes, Comes, Joins, Changes, Alters, Grows, Grew, Edges}
use Rattle.making.proofs.Items.{node-value, made-node, made-new, becomes_in, becomes-out, between-front, made-edge}

-- Nodes change.

-- slot x is as it was where none of the slots is x
nodes_change-other : (ns : List Node) (l : List ℕ) (g : Ledger) (x : ℕ) → ((j : ℕ) → j < length l → get_or l j 0 ≡ x → ⊥)
    → get_or (stores (nodes_change ns l) g).host.nodes x free ≡ get_or g.host.nodes x free
unfolding stores store put nodes_change
nodes_change-other [] [] g x h = refl
nodes_change-other (n ∷ ns) [] g x h = refl
nodes_change-other [] (y ∷ l) g x h =
    nodes_change-other [] l (store (of_node y free) g) x (λ j k. h (suc j) (omega arith))
    ∙ get_or-set_other g.host.nodes y x free free (λ q. h 0 (omega arith) (sym q))
nodes_change-other (n ∷ ns) (y ∷ l) g x h =
    nodes_change-other ns l (store (of_node y (live n)) g) x (λ j k. h (suc j) (omega arith))
    ∙ get_or-set_other g.host.nodes y x (live n) free (λ q. h 0 (omega arith) (sym q))

-- the bytes of right node i
abbrev pub NodeAt : List ℕ → ℕ → List ℕ → Type 0
NodeAt bs i p = For (rule_graph bs) (λ g. i < length g.nodes → (d : RuleNode) → rule_node p ≡ some (get_or g.nodes i d))

module _ {L : Layout} {nodes left bs lens atoms : List ℕ} {preserving : Bool} {k i x : ℕ} (w : Changes L nodes preserving left bs lens atoms k i x) where
  -- a node of the interface takes its right node's values
  abbrev pub change-takes : (p : List ℕ) (keeps : Bool) → i < k → NodeAt bs i p → KeepsRoot preserving left i p keeps
      → Takes L nodes p keeps lens atoms x
  change-takes p keeps h e t =
      let o : i < length w.made.tree.right.nodes = omega (arith, w.made.inside) in
      let n : RuleNode = get_or w.made.tree.right.nodes i blank_rule in
      let r = (rule_node-is p n (e w.made.tree.right w.made.is o blank_rule)).root in
      record {
        made = made-node w.made i o p (e w.made.tree.right w.made.is o blank_rule);
        alive = w.alive h;
        mark = (node-value w.made i o).mark ∙ ap (λ (m : Node). choose (eqb n.mark any_mark) m.mark n.mark) (w.same h);
        root =
            (node-value w.made i o).root
            ∙ choose_lt i w.made.tree.interface _ _ (omega (arith, w.made.interface))
            ∙ rw (← w.on.mode, ← (w.same h), r) (sym (t w.made.tree.left w.on.is (omega (arith, w.on.inside)) _ (node_at w.made.host (node_slot w.made.slots i)).root));
      }

  module _ (g : Ledger) {nodes' edges' journal' : List ℕ} {used : ℕ} where
    pub change-taken : i < k → Leads L (store (of_node x (live (get_or w.made.right.nodes i blank_node))) g) nodes' edges' journal' used
        → Leads L (store (of_node x (becomes (take k w.made.right.nodes) i)) g) nodes' edges' journal' used
    change-taken h l =
        subst (λ (s : Slot Node). Leads L (store (of_node x s) g) nodes' edges' journal' used)
        (sym (becomes_in w.made i (omega (arith, w.made.inside)) h)) l

    pub change-gone : k ≤ i → Leads L (store (of_node x free) g) nodes' edges' journal' used
        → Leads L (store (of_node x (becomes (take k w.made.right.nodes) i)) g) nodes' edges' journal' used
    change-gone h l =
        subst (λ (s : Slot Node). Leads L (store (of_node x s) g) nodes' edges' journal' used)
        (sym (becomes-out w.made i h)) l

module _ (L : Layout) (nodes₀ edges journal₀ : List ℕ) (preserving : Bool) (left bs lens atoms at : List ℕ) (used k n : ℕ) where
  -- i of the nodes have changed
  abbrev pub Altering : ℕ → List ℕ → List ℕ → Type 0
  Altering i nodes journal =
      (w : Alters L nodes₀ journal₀ preserving left bs lens atoms at used k n)
      → Changing L nodes₀ edges journal₀ used at (take k w.made.right.nodes) i nodes journal

module _ {L : Layout} {nodes₀ edges journal₀ : List ℕ} {preserving : Bool} {left bs lens atoms at : List ℕ} {used k n : ℕ} where
  pub altering_none : Held L nodes₀ edges journal₀ used → Altering L nodes₀ edges journal₀ preserving left bs lens atoms at used k n 0 nodes₀ journal₀
  altering_none h w = changing_none L nodes₀ edges journal₀ used at (take k w.made.right.nodes) h

  module _ (i : ℕ) {nodes journal : List ℕ} (so_far : Altering L nodes₀ edges journal₀ preserving left bs lens atoms at used k n i nodes journal) (w : Alters L nodes₀ journal₀ preserving left bs lens atoms at used k n) (h : i < n) where
    -- the next node's slot is as it was
    pub same : get_or (read_nodes L nodes) (get_or at i 0) free ≡ get_or (read_nodes L nodes₀) (get_or at i 0) free
    same =
        let l = length-take i at in
        let r = w.room in
        let f = w.few in
        ap (λ (g : Ledger). get_or g.host.nodes (get_or at i 0) free) (so_far w).leads.ledger
        ∙ nodes_change-other (take k w.made.right.nodes) (take i at) (ledger_of L nodes₀ edges journal₀ used) (get_or at i 0)
        (λ j o q. w.apart j i (omega arith) h (sym (get_or-take i at j 0 (omega arith)) ∙ q))

    abbrev pub altering_changes : Changes L nodes preserving left bs lens atoms k i (get_or at i 0)
    altering_changes =
        record {
          made = w.made;
          on = w.on;
          alive = λ o. ap is_live same ∙ w.alive i h;
          same = λ o.
              ap (λ (t : List (Slot Node)). node_in (get_or t (node_slot w.made.slots i) free)) w.host
              ∙ ap (λ (x : ℕ). node_in (get_or (read_nodes L nodes₀) x free)) (w.slots i h)
              ∙ ap node_in (sym same);
        }

    pub altering_next : Held L nodes edges journal (used + i)
        × ((get_or at i 0 < length nodes / node_length L) × (used + i < length journal / record_length L))
        × Changes L nodes preserving left bs lens atoms k i (get_or at i 0)
    altering_next =
        let t = changing_next L nodes₀ edges journal₀ used at (take k w.made.right.nodes) i nodes journal (so_far w) n h w.below w.records in
        (t.0, t.1, altering_changes)

  pub altering_more : (i : ℕ) {nodes journal : List ℕ} (so_far : Altering L nodes₀ edges journal₀ preserving left bs lens atoms at used k n i nodes journal) (h : i < n) {nodes' journal' : List ℕ}
      → ((c : Changes L nodes preserving left bs lens atoms k i (get_or at i 0))
      → Leads L (store (of_node (get_or at i 0) (becomes (take k c.made.right.nodes) i)) (ledger_of L nodes edges journal (used + i))) nodes' edges journal' (used + i + 1))
      → length nodes' ≡ length nodes → length journal' ≡ length journal
      → Altering L nodes₀ edges journal₀ preserving left bs lens atoms at used k n (i + 1) nodes' journal'
  altering_more i {nodes} {journal} so_far h {nodes'} {journal'} l a b w =
      let r = w.room in
      let f = w.few in
      changing_more L nodes₀ edges journal₀ used at (take k w.made.right.nodes) i nodes journal (so_far w) nodes' journal' (omega arith)
      (l (altering_changes i so_far w h)) a b

-- Nodes come.

module _ (L : Layout) (nodes₀ edges journal₀ bs lens atoms at : List ℕ) (used k new : ℕ) where
  -- i of the nodes have come, and the first places are those of the interface and theirs
  pub record Grown (i : ℕ) (nodes journal places : List ℕ) (ns : List Node) : Type 0 where
    pub come : Coming L nodes₀ edges journal₀ used ns i nodes journal
    pub lie : take (k + i) places ≡ take k at ++ (coming L nodes₀ edges journal₀ used ns i).slots

  abbrev pub Growing : ℕ → List ℕ → List ℕ → List ℕ → Type 0
  Growing i nodes journal places =
      (w : Grows L nodes₀ journal₀ bs lens atoms at used k new) → Grown i nodes journal places (drop k w.made.right.nodes)

module _ {L : Layout} {nodes₀ journal₀ bs lens atoms at : List ℕ} {used k new : ℕ} where
  new-long : (w : Grows L nodes₀ journal₀ bs lens atoms at used k new) → length (drop k w.made.right.nodes) ≡ new
  new-long w = omega (arith, length-drop k w.made.right.nodes, w.counted, w.made.nodes_long)

  abbrev pub growing_comes : (i : ℕ) → i < new → (w : Grows L nodes₀ journal₀ bs lens atoms at used k new) (p : List ℕ) → NodeAt bs (k + i) p
      → Comes L p lens atoms
  growing_comes i h w p e =
      let o : k + i < length w.made.tree.right.nodes = omega (arith, w.counted) in
      made-new w.made (k + i) o p (omega arith) (e w.made.tree.right w.made.is o blank_rule)

module _ {L : Layout} {nodes₀ edges journal₀ bs lens atoms at : List ℕ} {used k new : ℕ} where
  pub growing_none : Held L nodes₀ edges journal₀ used → Growing L nodes₀ edges journal₀ bs lens atoms at used k new 0 nodes₀ journal₀ at
  growing_none h w =
      let ns : List Node = drop k w.made.right.nodes in
      let z : k + 0 ≡ k = omega arith in
      record {
        come = coming-none L nodes₀ edges journal₀ used ns h;
        lie = rw (z, come-none ns (ledger_of L nodes₀ edges journal₀ used)) (sym (append-nil (take k at)));
      }

  pub growing_next : (i : ℕ) (h : i < new) (w : Grows L nodes₀ journal₀ bs lens atoms at used k new) (p : List ℕ) (e : NodeAt bs (k + i) p)
      {nodes journal places : List ℕ} → Growing L nodes₀ edges journal₀ bs lens atoms at used k new i nodes journal places
      → Held L nodes edges journal (used + i)
      × ((0 < free_slots (read_nodes L nodes)) × (used + i < length journal / record_length L))
      × Comes L p lens atoms
  growing_next i h w p e {nodes} {journal} {places} so_far =
      let ns : List Node = drop k w.made.right.nodes in
      let l = new-long w in
      let t = coming-next L nodes₀ edges journal₀ used ns i nodes journal (so_far w).come (omega arith) (rw l w.free) (rw l w.records) in
      (t.0, t.1, growing_comes i h w p e)

  pub growing_more : (i : ℕ) (h : i < new) {nodes journal places : List ℕ} (so_far : Growing L nodes₀ edges journal₀ bs lens atoms at used k new i nodes journal places) (p : List ℕ) (e : NodeAt bs (k + i) p)
      (x : ℕ) {nodes' journal' : List ℕ}
      → x ≡ lowest_free (read_nodes L nodes)
      → ((c : Comes L p lens atoms) → Leads L (store (of_node x (live c.made.node)) (ledger_of L nodes edges journal (used + i))) nodes' edges journal' (used + i + 1))
      → length nodes' ≡ length nodes → length journal' ≡ length journal → length places ≡ most_items
      → Growing L nodes₀ edges journal₀ bs lens atoms at used k new (i + 1) nodes' journal' (set places (k + i) x)
  growing_more i h {nodes} {journal} {places} so_far p e x {nodes'} {journal'} q l a b room w =
      let ns : List Node = drop k w.made.right.nodes in
      let f : get_or w.made.right.nodes (k + i) blank_node ≡ get_or ns i blank_node = sym (get_or-drop k w.made.right.nodes i blank_node) in
      let t = coming-more L nodes₀ edges journal₀ used ns i nodes journal (so_far w).come x blank_node nodes' journal' (omega (arith, new-long w)) q
      (subst (λ (n : Node). Leads L (store (of_node x (live n)) (ledger_of L nodes edges journal (used + i))) nodes' edges journal' (used + i + 1)) f (l (growing_comes i h w p e))) a b in
      let z : k + (i + 1) ≡ suc (k + i) = omega arith in
      let m : k + i < length places = omega (arith, w.counted, w.made.few_nodes) in
      record {
        come = t.0;
        lie =
            rw (z, take-suc-set places (k + i) x m, (so_far w).lie, t.1)
            (append_assoc (take k at) (coming L nodes₀ edges journal₀ used ns i).slots (x ∷ []));
      }

  pub growing_all : (i : ℕ) {nodes journal places : List ℕ} → Growing L nodes₀ edges journal₀ bs lens atoms at used k new i nodes journal places → i ≡ new → length places ≡ most_items
      → (w : Grows L nodes₀ journal₀ bs lens atoms at used k new)
      → Grew L (drop k w.made.right.nodes) nodes₀ edges journal₀ at used k new places nodes journal
  growing_all i {nodes} {journal} {places} so_far e room w =
      let ns : List Node = drop k w.made.right.nodes in
      let g : Grown L nodes₀ edges journal₀ bs lens atoms at used k new new nodes journal places ns = rw e at (so_far w) in
      let f : take new ns ≡ ns = take_all new ns (omega (arith, new-long w)) in
      record { went = rw f at g.come; lie = rw f at g.lie; room = room }

-- Edges come.

-- the bytes of right edge i
abbrev pub EdgeAt : List ℕ → ℕ → List ℕ → Type 0
EdgeAt bs i p = For (rule_graph bs) (λ g. i < length g.edges → (d : RuleEdge) → rule_edge p ≡ some (get_or g.edges i d))

module _ (L : Layout) (nodes edges₀ journal₀ bs lens atoms places : List ℕ) (used count : ℕ) where
  abbrev pub front : Edges L edges₀ journal₀ bs lens atoms places used count → List ℕ
  front w = take (length w.made.tree.right.nodes) places

  -- i of the edges have come
  abbrev pub Meeting : ℕ → List ℕ → List ℕ → Type 0
  Meeting i edges journal =
      (w : Edges L edges₀ journal₀ bs lens atoms places used count)
      → Joining L nodes edges₀ journal₀ used (front w) w.made.right.edges i edges journal

module _ {L : Layout} {edges₀ journal₀ bs lens atoms places : List ℕ} {used count : ℕ} where
  edges-long : (w : Edges L edges₀ journal₀ bs lens atoms places used count) → length w.made.right.edges ≡ count
  edges-long w = omega (arith, w.counted, w.made.edges_long)

  abbrev pub meeting_joins : (i : ℕ) → i < count → (w : Edges L edges₀ journal₀ bs lens atoms places used count) (p : List ℕ) → EdgeAt bs i p
      → Joins L p lens atoms places
  meeting_joins i h w p e =
      let o : i < length w.made.tree.right.edges = omega (arith, w.counted) in
      made-edge w.made places w.room i o p (e w.made.tree.right w.made.is o blank_rule_edge) (w.ends i h)

module _ {L : Layout} {nodes edges₀ journal₀ bs lens atoms places : List ℕ} {used count : ℕ} where
  pub meeting_none : Held L nodes edges₀ journal₀ used → Meeting L nodes edges₀ journal₀ bs lens atoms places used count 0 edges₀ journal₀
  meeting_none h w = joining_none L nodes edges₀ journal₀ used (front L nodes edges₀ journal₀ bs lens atoms places used count w) w.made.right.edges h

  pub meeting_next : (i : ℕ) (h : i < count) (w : Edges L edges₀ journal₀ bs lens atoms places used count) (p : List ℕ) (e : EdgeAt bs i p)
      {edges journal : List ℕ} → Meeting L nodes edges₀ journal₀ bs lens atoms places used count i edges journal
      → Held L nodes edges journal (used + i)
      × ((0 < free_slots (read_edges L edges)) × (used + i < length journal / record_length L))
      × Joins L p lens atoms places
  meeting_next i h w p e {edges} {journal} so_far =
      let l = edges-long w in
      let t = joining_next L nodes edges₀ journal₀ used (front L nodes edges₀ journal₀ bs lens atoms places used count w) w.made.right.edges i edges journal (so_far w) (omega arith) (rw l w.free) (rw l w.records) in
      (t.0, t.1, meeting_joins i h w p e)

  pub meeting_more : (i : ℕ) (h : i < count) {edges journal : List ℕ} (so_far : Meeting L nodes edges₀ journal₀ bs lens atoms places used count i edges journal) (p : List ℕ) (e : EdgeAt bs i p)
      (x : ℕ) {edges' journal' : List ℕ}
      → x ≡ lowest_free (read_edges L edges)
      → ((c : Joins L p lens atoms places) → Leads L (store (of_edge x (live (between places c.edge))) (ledger_of L nodes edges journal (used + i))) nodes edges' journal' (used + i + 1))
      → length edges' ≡ length edges → length journal' ≡ length journal
      → Meeting L nodes edges₀ journal₀ bs lens atoms places used count (i + 1) edges' journal'
  meeting_more i h {edges} {journal} so_far p e x {edges'} {journal'} q l a b w =
      let f = sym (between-front w.made places w.room i (omega (arith, w.counted))) in
      joining_more L nodes edges₀ journal₀ used (front L nodes edges₀ journal₀ bs lens atoms places used count w) w.made.right.edges i edges journal (so_far w) x blank_edge edges' journal' (omega (arith, edges-long w)) q
      (subst (λ (n : Edge). Leads L (store (of_edge x (live n)) (ledger_of L nodes edges journal (used + i))) nodes edges' journal' (used + i + 1)) f (l (meeting_joins i h w p e))) a b

  pub meeting_all : (i : ℕ) {edges journal : List ℕ} → Meeting L nodes edges₀ journal₀ bs lens atoms places used count i edges journal → i ≡ count
      → (w : Edges L edges₀ journal₀ bs lens atoms places used count)
      → Went L (add_edges (front L nodes edges₀ journal₀ bs lens atoms places used count w) w.made.right.edges (ledger_of L nodes edges₀ journal₀ used)) nodes edges₀ journal₀ nodes edges journal (used + count)
  meeting_all i {edges} {journal} so_far e w =
      let g : Joining L nodes edges₀ journal₀ used (front L nodes edges₀ journal₀ bs lens atoms places used count w) w.made.right.edges count edges journal = rw e at (so_far w) in
      rw (take_all count w.made.right.edges (omega (arith, edges-long w))) at g
