-- Restoring: `From a b` says that b is a with some changes, all of them recorded, so that putting the new records back
-- gives a's host. Stores, the parts of applying and applying itself keep it. Rests on the meaning's Applying, Laws/Slots and Laws/Applying.
use Rattle.std.specs.Prelude.{ℕ, ◌+◌, ◌-◌, ◌≡◌, refl, List, [], ◌∷◌, ◌++◌, length, take}
use Rattle.std.proofs.Common.{sym, ◌∙◌, ap, append_assoc, append-nil, arith, length-append}
use Rattle.std.proofs.Math.Seq.{take-append_seam}
use Rattle.meaning.specs.Layout.{Slot, live, Node, Edge, Host, Change, of_node, of_edge, undone}
use Rattle.meaning.specs.Image.{Rule}
use Rattle.meaning.specs.Applying.{Right, Ledger, standing, store, stores, lowest_free, add_nodes, between, add_edges, changed}
use Rattle.meaning.specs.Laws.Slots.{undone_append, undone-nodes, put-back}
use Rattle.meaning.specs.Laws.Applying.{Applies}

pub record From (a b : Ledger) : Type 0 where
  pub new : List (Change (Slot Node) (Slot Edge))
  pub recorded : b.journal ≡ new ++ a.journal
  pub restores : undone new b.host ≡ a.host

pub from-same : (a : Ledger) → From a a
unfolding undone
from-same a = record { new = []; recorded = refl; restores = refl }

pub from-trans : (a b c : Ledger) → From a b → From b c → From a c
from-trans a b c f g =
    record {
      new = g.new ++ f.new;
      recorded = rw (append_assoc, ← f.recorded) g.recorded;
      restores = rw (undone_append, g.restores) f.restores;
    }

-- What it says of the two ledgers.

pub from-nodes : (a b : Ledger) → From a b → length b.host.nodes ≡ length a.host.nodes
from-nodes a b f =
    sym (undone-nodes f.new b.host) ∙ ap (λ (h : Host). length h.nodes) f.restores

-- the new records are those beyond as many as there were
pub from-count : (a b : Ledger) (f : From a b) → length b.journal ≡ length f.new + length a.journal
from-count a b f = ap length f.recorded ∙ length-append f.new a.journal

pub from-new : (a b : Ledger) (f : From a b) → take (length b.journal - length a.journal) b.journal ≡ f.new
from-new a b f =
    let e : length f.new ≡ length b.journal - length a.journal = omega (arith, from-count a b f) in
    rw (← e, f.recorded) (take-append_seam f.new a.journal)

pub from-host : (a b : Ledger) → From a b
    → undone (take (length b.journal - length a.journal) b.journal) b.host ≡ a.host
from-host a b f = rw (from-new a b f) f.restores

-- from an empty journal, all records put back give the host at the start
pub from_start : (a b : Ledger) → a.journal ≡ [] → From a b → undone b.journal b.host ≡ a.host
from_start a b e f = rw (f.recorded, e, append-nil) f.restores

-- What keeps it.

pub store-from : (c : Change (Slot Node) (Slot Edge)) (g : Ledger) → From g (store c g)
unfolding store undone
store-from c g = record { new = standing c g.host ∷ []; recorded = refl; restores = put-back c g.host }

pub stores-from : (l : List (Change (Slot Node) (Slot Edge))) (g : Ledger) → From g (stores l g)
unfolding stores
stores-from [] g = from-same g
stores-from (c ∷ l) g = from-trans g (store c g) _ (store-from c g) (stores-from l (store c g))

pub add_nodes-from : (l : List Node) (g : Ledger) → From g (add_nodes l g).ledger
unfolding add_nodes
add_nodes-from [] g = from-same g
add_nodes-from (n ∷ l) g =
    let c : Change (Slot Node) (Slot Edge) = of_node (lowest_free g.host.nodes) (live n) in
    from-trans g (store c g) _ (store-from c g) (add_nodes-from l (store c g))

pub add_edges-from : (slots : List ℕ) (l : List Edge) (g : Ledger) → From g (add_edges slots l g)
unfolding add_edges
add_edges-from slots [] g = from-same g
add_edges-from slots (e ∷ l) g =
    let c : Change (Slot Node) (Slot Edge) = of_edge (lowest_free g.host.edges) (live (between slots e)) in
    from-trans g (store c g) _ (store-from c g) (add_edges-from slots l (store c g))

pub changed-from : (r : Rule) (p : List ℕ) (right : Right) (g : Ledger) → From g (changed r p right g)
unfolding changed
changed-from r p right g =
    from-trans g _ _ (stores-from _ g) (from-trans _ _ _ (add_nodes-from _ _) (add_edges-from _ right.edges _))

pub apply-from : (most room : ℕ) (r : Rule) (p : List ℕ) (g g' : Ledger) → Applies most room r p g g' → From g g'
apply-from most room r p g g' a = rw a.changes (changed-from r p a.right g)
