-- The ends of edges after a rule's changes at a match: an edge that stays has both its ends, by the dangling condition, and a
-- right edge runs between interface nodes and new nodes, which are live. Rests on Layout, References, Matching, Assigned and
-- Applying, and in this folder on Slots, Applying, Interface and Room.
use Prim.Native.Nat.{ℕ}
use Rattle.std.specs.Prelude.{◌≡◌, true, take}
use mathlib.Core.List.{List, ◌++◌}
use Rattle.meaning.specs.Layout.{Slot, Node, Edge, live_at}
use Rattle.meaning.specs.Image.{Rule}
use Rattle.meaning.specs.Applying.{Right, Ledger, changed}
use Rattle.meaning.specs.Laws.Room.{after_new}

-- both ends of an edge are live node slots
pub record Attached (nodes : List (Slot Node)) (e : Edge) : Type 0 where
  pub source : live_at nodes e.source ≡ true
  pub target : live_at nodes e.target ≡ true

-- the nodes in the end, and the slots of the right nodes
abbrev pub nodes_after : Rule → List ℕ → Right → Ledger → List (Slot Node)
nodes_after r p right g = (changed r p right g).host.nodes

abbrev pub right_slots : Rule → List ℕ → Right → Ledger → List ℕ
right_slots r p right g = take r.interface p ++ (after_new r p right g).slots
