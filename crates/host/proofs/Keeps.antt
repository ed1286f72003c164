-- Laws for the layout test: what the clauses passed so far, and the one that fails, say of a slot.
use Prim.Native.Nat.{ℕ, ◌<◌, ◌≤◌}
use mathlib.Core.Path.{◌≡◌, refl, sym, ◌∙◌}
use mathlib.Core.List.{List, [], ◌∷◌}
use mathlib.Core.Bool.{Bool, true, false}
use borrow.Author.Tests.{eq-eqb, ne_eqb, le-leb, lt-leb}
use lib.Dec.{eqb, leb}
use lib.ListN.{get_or, take, drop}
use Rattle.meaning.specs.Basics.{choose, both, either, clauses, zeros}
use Rattle.meaning.specs.Numbers.{number}
use Rattle.meaning.specs.Tags.{blue_mark, grey_mark, dashed_mark}
use Rattle.meaning.specs.Layout.{Slot, Node, state_place, mark_place, root_place, length_place, head_length, source_place, target_place, edge_atoms, live_at, is_node_mark, is_edge_mark, keeps_node, keeps_edge}
use Rattle.meaning.specs.Laws.Tests.{both-last, both_yes, both-no}
use Rattle.meaning.specs.declared.Layout.{Layout}
use Rattle.meaning.specs.declared.Table.{Table}
use Rattle.meaning.specs.declared.Table.TheVariants.{Nodes, Edges}
use Rattle.slots.specs.Slots.{label_end}
use Rattle.host.specs.Tables.{keeps_slot, Filled}

-- What a node's slot and an edge's have in common.

-- the fourth clause fails
fourth : (a b c : Bool) (l : List Bool) → false ≡ clauses (a ∷ b ∷ c ∷ false ∷ l)
unfolding clauses both
fourth false b c l = refl
fourth true false c l = refl
fourth true true false l = refl
fourth true true true l = refl

module _ (L : Layout) (nodes : List (Slot Node)) (b : List ℕ) where
  pub slot-free : (t : Table) → get_or b state_place 0 ≡ 0 → zeros b ≡ keeps_slot L nodes t b
  unfolding keeps_node keeps_edge choose
  slot-free Nodes e = rw (eq-eqb (get_or b state_place 0) 0 e)
  slot-free Edges e = rw (eq-eqb (get_or b state_place 0) 0 e)

  pub slot-state : (t : Table) → (get_or b state_place 0 ≡ 0 → ⊥) → (get_or b state_place 0 ≡ 1 → ⊥) → false ≡ keeps_slot L nodes t b
  unfolding keeps_node keeps_edge choose clauses both
  slot-state Nodes e s = rw (ne_eqb (get_or b state_place 0) 0 e, ne_eqb (get_or b state_place 0) 1 s)
  slot-state Edges e s = rw (ne_eqb (get_or b state_place 0) 0 e, ne_eqb (get_or b state_place 0) 1 s)

  pub slot-size : (t : Table) → (get_or b state_place 0 ≡ 0 → ⊥) → L.atoms < get_or b length_place 0 → false ≡ keeps_slot L nodes t b
  unfolding keeps_node keeps_edge choose
  slot-size Nodes e n = rw (ne_eqb (get_or b state_place 0) 0 e, lt-leb (get_or b length_place 0) L.atoms n) (fourth _ _ _ _)
  slot-size Edges e n = rw (ne_eqb (get_or b state_place 0) 0 e, lt-leb (get_or b length_place 0) L.atoms n) (fourth _ _ _ _)

-- What `&&` gives: the second test where the first holds, and else the first.

pub and-then : {a b r : Bool} → a ≡ true → r ≡ b → r ≡ both a b
and-then {a} {b} e h = h ∙ sym (both_yes a b e)

pub and-else : {a r : Bool} (b : Bool) → a ≡ false → r ≡ a → r ≡ both a b
and-else {a} b e h = h ∙ e ∙ sym (both-no a b e)

-- A node's slot.

three : (a b c : Bool) → both (both a b) c ≡ clauses (true ∷ a ∷ b ∷ true ∷ c ∷ [])
unfolding clauses both
three false b c = refl
three true false c = refl
three true true c = both-last c

pub node-clauses : (L : Layout) (b : List ℕ) → Filled L b
    → both (both (leb (get_or b mark_place 0) grey_mark) (leb (get_or b root_place 0) 1)) (zeros (drop (label_end head_length b) b)) ≡ keeps_node L b
unfolding keeps_node choose is_node_mark
node-clauses L b f =
    rw (f.state, le-leb (get_or b length_place 0) L.atoms f.size)
    (three (leb (get_or b mark_place 0) grey_mark) (leb (get_or b root_place 0) 1) (zeros (drop (label_end head_length b) b)))

-- An edge's slot.

pub edge-mark-low : (m : ℕ) → m ≤ blue_mark → true ≡ is_edge_mark m
unfolding is_edge_mark either
edge-mark-low m h = rw (le-leb m blue_mark h)

pub edge-mark_high : (m : ℕ) → blue_mark < m → eqb m dashed_mark ≡ is_edge_mark m
unfolding is_edge_mark either
edge-mark_high m h = rw (lt-leb m blue_mark h)

five : (a b c d e : Bool) → both (both (both (both a b) c) d) e ≡ clauses (true ∷ a ∷ b ∷ true ∷ c ∷ d ∷ e ∷ [])
unfolding clauses both
five false b c d e = refl
five true false c d e = refl
five true true false d e = refl
five true true true false e = refl
five true true true true e = both-last e

module _ (L : Layout) (nodes : List (Slot Node)) (b : List ℕ) where
  abbrev pub source-live : Bool
  source-live = live_at nodes (number (take L.width (drop (source_place L) b)))

  abbrev pub target-live : Bool
  target-live = live_at nodes (number (take L.width (drop (target_place L) b)))

  pub edge-clauses : Filled L b
      → both (both (both (both (is_edge_mark (get_or b mark_place 0)) (eqb (get_or b root_place 0) 0)) source-live) target-live) (zeros (drop (label_end (edge_atoms L) b) b)) ≡ keeps_edge L nodes b
  unfolding keeps_edge choose
  edge-clauses f =
      rw (f.state, le-leb (get_or b length_place 0) L.atoms f.size)
      (five (is_edge_mark (get_or b mark_place 0)) (eqb (get_or b root_place 0) 0) source-live target-live (zeros (drop (label_end (edge_atoms L) b) b)))
