-- Laws of Applying: what a store records, what holds where a rule was applied, how many records that took, and that nothing
-- hinders an application for want of fuel. Rests on Applying.
use Prim.Native.Nat.{ℕ, zero, suc, ◌+◌, ◌<◌, ◌≤◌}
use Rattle.std.specs.Prelude.{◌≡◌, refl, Bool, true, false, length, get_or}
use Rattle.std.proofs.Common.{sym, ◌∙◌, ap, leb-true, length-append, length-take, length-drop}
use mathlib.Core.List.{List, [], ◌∷◌, ◌++◌}
use Rattle.std.proofs.Math.Option.{Option, some, none}
use native.Mathlib.Omega.{arith}
use Rattle.std.proofs.lemmas.List.{length-map}
use Rattle.meaning.specs.Basics.{choose, each, first_failing}
use Rattle.meaning.specs.Layout.{Slot, live, Node, Edge, Host, Change, of_node, of_edge, put}
use Rattle.meaning.specs.Image.{RuleNode, Rule}
use Rattle.meaning.specs.Matching.{left_nodes, left_edges, Assignment}
use Rattle.meaning.specs.Assigned.{assigned}
use Rattle.meaning.specs.Applying.{right_node, right_nodes, Right, right_side, Ledger, store, stores, lowest_free, free_slots, nodes_change, add_nodes, between, add_edges, changed, new_nodes, gone_nodes, records_of, hindrance, applied, unhindered, apply}
use Rattle.meaning.specs.Laws.Tests.{some_inj, bind_some, each-some}
use Rattle.meaning.specs.Laws.Checks.{first_failing-none}
use Rattle.meaning.specs.declared.Stop.{Stop}
use Rattle.meaning.specs.declared.Stop.TheVariants.{OutOfFuel, NoNodeRoom, NoEdgeRoom, NoRecordRoom, LabelTooLarge}

-- Stores.

pub store-host : (c : Change (Slot Node) (Slot Edge)) (g : Ledger) → (store c g).host ≡ put c g.host
unfolding store
store-host c g = refl

pub stores_append : (a b : List (Change (Slot Node) (Slot Edge))) (g : Ledger)
    → stores (a ++ b) g ≡ stores b (stores a g)
unfolding stores
stores_append [] b g = refl
stores_append (c ∷ a) b g = stores_append a b (store c g)

pub stores-records : (l : List (Change (Slot Node) (Slot Edge))) (g : Ledger)
    → length (stores l g).journal ≡ length l + length g.journal
unfolding stores store
stores-records [] g = omega arith
stores-records (c ∷ l) g = let h = stores-records l (store c g) in omega arith

-- The right side has as many nodes and edges as the rule's.

pub each_at : {A B : Type 0} (f : A → Option B) (l : List A) (m : List B) → each f l ≡ some m → (i : ℕ) → i < length l → (d : A) (b : B)
    → f (get_or l i d) ≡ some (get_or m i b)
unfolding each
each_at f [] m q i h d b = absurd (omega arith)
each_at f (a ∷ l) m q zero h d b =
    let t = bind_some (f a) _ m q in
    let u = bind_some (each f l) _ m t.2 in
    rw (some_inj m (t.0 ∷ u.0) (sym u.2)) t.1
each_at f (a ∷ l) m q (suc i) h d b =
    let t = bind_some (f a) _ m q in
    let u = bind_some (each f l) _ m t.2 in
    rw (some_inj m (t.0 ∷ u.0) (sym u.2)) (each_at f l u.0 u.1 i (omega arith) d b)

module _ (most : ℕ) (r : Rule) (α : Assignment) (h : Host) (p : List ℕ) where
  pub nodes-at : (j : ℕ) (l : List RuleNode) (m : List Node) → right_nodes most r α h p j l ≡ some m → (i : ℕ) → i < length l → (d : RuleNode) (b : Node)
      → right_node most r α h p (j + i) (get_or l i d) ≡ some (get_or m i b)
  unfolding right_nodes
  nodes-at j [] m q i k d b = absurd (omega arith)
  nodes-at j (n ∷ l) m q zero k d b =
      let t = bind_some (right_node most r α h p j n) _ m q in
      let u = bind_some (right_nodes most r α h p (suc j) l) _ m t.2 in
      let z : j + zero ≡ j = omega arith in
      rw (some_inj m (t.0 ∷ u.0) (sym u.2), z) t.1
  nodes-at j (n ∷ l) m q (suc i) k d b =
      let t = bind_some (right_node most r α h p j n) _ m q in
      let u = bind_some (right_nodes most r α h p (suc j) l) _ m t.2 in
      let z : j + suc i ≡ suc j + i = omega arith in
      rw (some_inj m (t.0 ∷ u.0) (sym u.2), z) (nodes-at (suc j) l u.0 u.1 i (omega arith) d b)

pub right_nodes-some : (most : ℕ) (r : Rule) (α : Assignment) (h : Host) (p : List ℕ) (j : ℕ) (l : List RuleNode) (m : List Node)
    → right_nodes most r α h p j l ≡ some m → length m ≡ length l
unfolding right_nodes
right_nodes-some most r α h p j [] m e = ap length (some_inj m [] (sym e))
right_nodes-some most r α h p j (n ∷ l) m e =
    let t = bind_some (right_node most r α h p j n) _ m e in
    let u = bind_some (right_nodes most r α h p (suc j) l) _ m t.2 in
    ap length (some_inj m (t.0 ∷ u.0) (sym u.2)) ∙ ap suc (right_nodes-some most r α h p (suc j) l u.0 u.1)

pub right_side-some : (most : ℕ) (h : Host) (r : Rule) (p : List ℕ) (right : Right) → right_side most h r p ≡ some right
    → (length right.nodes ≡ length r.right.nodes) × (length right.edges ≡ length r.right.edges)
unfolding right_side
right_side-some most h r p right e =
    let t = bind_some (right_nodes most r (assigned h r p) h p 0 r.right.nodes) _ right e in
    let u = bind_some _ _ right t.2 in
    let q = some_inj right (record { nodes = t.0; edges = u.0 }) (sym u.2) in (
      ap (λ (x : Right). length x.nodes) q ∙ right_nodes-some most r _ h p 0 r.right.nodes t.0 t.1,
      ap (λ (x : Right). length x.edges) q ∙ each-some _ r.right.edges u.0 u.1,
    )

-- How many records the changes take.

pub nodes_change-length : (ns : List Node) (l : List ℕ) → length (nodes_change ns l) ≡ length l
unfolding nodes_change
nodes_change-length [] [] = refl
nodes_change-length [] (x ∷ l) = ap suc (nodes_change-length [] l)
nodes_change-length (n ∷ ns) [] = refl
nodes_change-length (n ∷ ns) (x ∷ l) = ap suc (nodes_change-length ns l)

pub add_nodes-records : (l : List Node) (g : Ledger)
    → length (add_nodes l g).ledger.journal ≡ length l + length g.journal
unfolding add_nodes store
add_nodes-records [] g = omega arith
add_nodes-records (n ∷ l) g =
    let h = add_nodes-records l (store (of_node (lowest_free g.host.nodes) (live n)) g) in
    omega arith

pub add_edges-records : (slots : List ℕ) (l : List Edge) (g : Ledger)
    → length (add_edges slots l g).journal ≡ length l + length g.journal
unfolding add_edges store
add_edges-records slots [] g = omega arith
add_edges-records slots (e ∷ l) g =
    let h = add_edges-records slots l (store (of_edge (lowest_free g.host.edges) (live (between slots e))) g) in
    omega arith

pub changed-records : (r : Rule) (p : List ℕ) (right : Right) (g : Ledger) → length p ≡ left_nodes r + left_edges r
    → length right.nodes ≡ length r.right.nodes → length right.edges ≡ length r.right.edges
    → length (changed r p right g).journal ≡ length g.journal + records_of r
unfolding changed
changed-records r p right g size n m =
    simp
    (add_edges-records, add_nodes-records, stores-records, length-append, length-map, nodes_change-length, length-drop, length-take)
    (omega arith)

-- What holds where a rule was applied.

-- the rule r was applied at the match p to the ledger g, which gave g'
pub record Applies (most room : ℕ) (r : Rule) (p : List ℕ) (g g' : Ledger) : Type 0 where
  pub right : Right
  pub values : right_side most g.host r p ≡ some right
  pub node_room : new_nodes r ≤ free_slots g.host.nodes + gone_nodes r
  pub edge_room : length r.right.edges ≤ free_slots g.host.edges + left_edges r
  pub record_room : length g.journal + records_of r ≤ room
  pub changes : g' ≡ changed r p right g

pub apply-applied : (most room : ℕ) (r : Rule) (p : List ℕ) (g g' : Ledger) → apply most room r p g ≡ applied g'
    → Applies most room r p g g'
unfolding apply unhindered hindrance
apply-applied most room r p g g' e = at (hindrance most room r p g) (right_side most g.host r p) refl refl e
  where
    at : (w : Option Stop) (o : Option Right) → hindrance most room r p g ≡ w → right_side most g.host r p ≡ o
        → unhindered w o r p g ≡ applied g' → Applies most room r p g g'
    at (some w) o q v e = let z : ◌≡◌ {A = ℕ} 0 1 = cc in absurd (omega arith)
    at none none q v e = let z : ◌≡◌ {A = ℕ} 0 1 = cc in absurd (omega arith)
    at none (some right) q v e =
        let s = first_failing-none _ _ _ q in
        let t = first_failing-none _ _ _ s.1 in
        let u = first_failing-none _ _ _ t.1 in
        let w = first_failing-none _ _ _ u.1 in
        record {
          right = right;
          values = v;
          node_room = leb-true _ _ t.0;
          edge_room = leb-true _ _ u.0;
          record_room = leb-true _ _ w.0;
          changes = cc;
        }

-- the records that it took, and that they are there
pub apply-records : (most room : ℕ) (r : Rule) (p : List ℕ) (g g' : Ledger) → length p ≡ left_nodes r + left_edges r
    → Applies most room r p g g' → length g'.journal ≡ length g.journal + records_of r
apply-records most room r p g g' size a =
    let t = right_side-some most g.host r p a.right a.values in
    ap (λ (x : Ledger). length x.journal) a.changes ∙ changed-records r p a.right g size t.0 t.1

pub apply-room : (most room : ℕ) (r : Rule) (p : List ℕ) (g g' : Ledger) → length p ≡ left_nodes r + left_edges r
    → Applies most room r p g g' → length g'.journal ≤ room
apply-room most room r p g g' size a = let e = apply-records most room r p g g' size a in omega (arith, a.record_room)

-- Where it was not applied, the reason is not a want of fuel.

checks_some : (a b c d : Bool) (w : Stop)
    → first_failing ((a, LabelTooLarge) ∷ (b, NoNodeRoom) ∷ (c, NoEdgeRoom) ∷ (d, NoRecordRoom) ∷ []) ≡ some w → w ≡ OutOfFuel → ⊥
unfolding first_failing choose
checks_some false b c d w e q = let z : ◌≡◌ {A = ℕ} 0 1 = cc in omega arith
checks_some true false c d w e q = let z : ◌≡◌ {A = ℕ} 0 1 = cc in omega arith
checks_some true true false d w e q = let z : ◌≡◌ {A = ℕ} 0 1 = cc in omega arith
checks_some true true true false w e q = let z : ◌≡◌ {A = ℕ} 0 1 = cc in omega arith
checks_some true true true true w e q = let z : ◌≡◌ {A = ℕ} 0 1 = cc in omega arith

pub hindrance-some : (most room : ℕ) (r : Rule) (p : List ℕ) (g : Ledger) (w : Stop) → hindrance most room r p g ≡ some w → w ≡ OutOfFuel → ⊥
unfolding hindrance
hindrance-some most room r p g w e = checks_some _ _ _ _ w e
