-- The checks of room before any change, in order: 3, 4, 5. Rests on the meaning's Applying and on slots' States.
use Rattle.std.specs.Prelude.{◌≡◌, refl, List, [], ◌∷◌, ℕ, ◌+◌, ◌/◌, ◌<◌, ◌≤◌, length, leb, Result, Ok, Err}
use Rattle.std.proofs.Common.{sym, ◌∙◌, ap, arith}
use Rattle.std.proofs.Math.Option.{Option, some, none}
use borrow.Author.Tests.{le-leb, lt-leb}
use Rattle.meaning.specs.Basics.{choose, first_failing, is_some}
use Rattle.meaning.specs.Layout.{Sized, node_length, edge_length, record_length, read_node, read_edge, read_nodes, read_edges}
use Rattle.meaning.specs.Image.{Rule}
use Rattle.meaning.specs.Matching.{left_edges}
use Rattle.meaning.specs.Applying.{Ledger, free_slots, new_nodes, gone_nodes, records_of, right_side, hindrance}
use Rattle.meaning.specs.Laws.Slots.{free_slots_le}
use Rattle.laws.specs.Pieces.{length-read}
use Rattle.meaning.specs.declared.Layout.{Layout}
use Rattle.meaning.specs.declared.Stop.{Stop}
use Rattle.meaning.specs.declared.Stop.TheVariants.{NoNodeRoom, NoEdgeRoom, NoRecordRoom, LabelTooLarge}
use Rattle.slots.specs.Slots.{states}
use Rattle.slots.specs.States.{slots-nodes, slots-edges}

-- what an answer says, as the definitions do
unfoldable pub stop_of : Result (Unit {0}) Stop → Option Stop
stop_of (Ok u) = none
stop_of (Err w) = some w

-- what is lacking: nodes and edges come in free slots and in those of the nodes and edges that go, and there are so many
-- records in all
unfoldable pub lacking : ℕ → ℕ → ℕ → ℕ → ℕ → ℕ → ℕ → ℕ → Option Stop
lacking nodes_come nodes_free nodes_go edges_come edges_free edges_go all room =
    first_failing
    ((leb nodes_come (nodes_free + nodes_go), NoNodeRoom)
    ∷ (leb edges_come (edges_free + edges_go), NoEdgeRoom)
    ∷ (leb all room, NoRecordRoom)
    ∷ [])

-- the checks of an application: the labels can be held, and nothing is lacking
pub hindrance-is : (most room : ℕ) (r : Rule) (p : List ℕ) (g : Ledger)
    → hindrance most room r p g
    ≡ choose (is_some (right_side most g.host r p))
    (lacking (new_nodes r) (free_slots g.host.nodes) (gone_nodes r) (length r.right.edges) (free_slots g.host.edges) (left_edges r) (length g.journal + records_of r) room)
    (some LabelTooLarge)
unfolding hindrance lacking first_failing
hindrance-is most room r p g = refl

module _ (nodes_come nodes_free nodes_go edges_come edges_free edges_go all room : ℕ) where
  abbrev answer : Option Stop
  answer = lacking nodes_come nodes_free nodes_go edges_come edges_free edges_go all room

  pub lacks-nodes : nodes_free + nodes_go < nodes_come → stop_of (Err NoNodeRoom) ≡ answer
  unfolding lacking first_failing choose stop_of
  lacks-nodes h = rw (lt-leb _ _ h)

  module _ (h : nodes_come ≤ nodes_free + nodes_go) where
    pub lacks-edges : edges_free + edges_go < edges_come → stop_of (Err NoEdgeRoom) ≡ answer
    unfolding lacking first_failing choose stop_of
    lacks-edges k = rw (le-leb _ _ h, lt-leb _ _ k)

    module _ (k : edges_come ≤ edges_free + edges_go) where
      pub lacks-records : room < all → stop_of (Err NoRecordRoom) ≡ answer
      unfolding lacking first_failing choose stop_of
      lacks-records l = rw (le-leb _ _ h, le-leb _ _ k, lt-leb _ _ l)

      pub lacks-none : all ≤ room → stop_of (Ok tt) ≡ answer
      unfolding lacking first_failing choose stop_of
      lacks-none l = rw (le-leb _ _ h, le-leb _ _ k, le-leb _ _ l)

-- the records that a journal holds, as the code counts them
pub records-room : (L : Layout) → Sized L → (journal : List ℕ) → length journal / L.change ≡ length journal / record_length L
records-room L sized journal = ap (λ (w : ℕ). length journal / w) sized.change

-- the free slots of a table, as the code counts them
module _ (L : Layout) (sized : Sized L) (bs : List ℕ) (n : ℕ) where
  pub nodes-free : n ≡ free_slots (states L.node bs) → free_slots (read_nodes L bs) ≡ n
  nodes-free e = slots-nodes L bs ∙ ap (λ (w : ℕ). free_slots (states w bs)) (sym sized.node) ∙ sym e

  pub edges-free : n ≡ free_slots (states L.edge bs) → free_slots (read_edges L bs) ≡ n
  edges-free e = slots-edges L bs ∙ ap (λ (w : ℕ). free_slots (states w bs)) (sym sized.edge) ∙ sym e

  pub nodes-free_le : n ≡ free_slots (states L.node bs) → n ≤ length bs / node_length L
  nodes-free_le e = omega (arith, nodes-free e, free_slots_le (read_nodes L bs), length-read (node_length L) read_node bs)

  pub edges-free_le : n ≡ free_slots (states L.edge bs) → n ≤ length bs / edge_length L
  edges-free_le e = omega (arith, edges-free e, free_slots_le (read_edges L bs), length-read (edge_length L) (read_edge L) bs)
