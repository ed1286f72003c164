-- Laws of states: what a table of nodes and a table of edges say of their slots follows from the state of each.
-- Rests on Slots and on laws' Layout.
use Prim.Native.Nat.{ℕ, zero, suc}
use Rattle.std.proofs.Math.Path.{◌≡◌, refl, ap}
use Rattle.std.proofs.Common.{sym, ◌∙◌, arith}
use mathlib.Core.List.{List, [], ◌∷◌, map}
use Rattle.std.specs.Prelude.{not, get_or, eqb}
use Rattle.meaning.specs.Layout.{Slot, free, live, is_live, live_at, state_place, node_length, edge_length, cut, read_node, read_edge, read_nodes, read_edges}
use Rattle.meaning.specs.Applying.{lowest_free, free_slots}
use Rattle.meaning.specs.declared.Layout.{Layout}
use Rattle.laws.specs.Layout.{is_live_choose, is_live_read_node, is_live-read_edge}
use Rattle.slots.specs.Slots.{state_of, states}

-- Two tables whose slots are free in the same places.

module _ {A B : Type 0} where
  lowest_step : (s : Slot A) (t : Slot B) (l : List (Slot A)) (m : List (Slot B)) → is_live s ≡ is_live t → lowest_free l ≡ lowest_free m
      → lowest_free (s ∷ l) ≡ lowest_free (t ∷ m)
  unfolding is_live lowest_free
  lowest_step free free l m e h = refl
  lowest_step free (live b) l m e h = let z : ◌≡◌ {A = ℕ} 0 1 = cc in absurd (omega arith)
  lowest_step (live a) free l m e h = let z : ◌≡◌ {A = ℕ} 0 1 = cc in absurd (omega arith)
  lowest_step (live a) (live b) l m e h = ap suc h

  slots-step : (s : Slot A) (t : Slot B) (l : List (Slot A)) (m : List (Slot B)) → is_live s ≡ is_live t → free_slots l ≡ free_slots m
      → free_slots (s ∷ l) ≡ free_slots (t ∷ m)
  unfolding is_live free_slots
  slots-step free free l m e h = ap suc h
  slots-step free (live b) l m e h = let z : ◌≡◌ {A = ℕ} 0 1 = cc in absurd (omega arith)
  slots-step (live a) free l m e h = let z : ◌≡◌ {A = ℕ} 0 1 = cc in absurd (omega arith)
  slots-step (live a) (live b) l m e h = h

module _ {A B : Type 0} (f : List ℕ → Slot A) (g : List ℕ → Slot B) (same : (b : List ℕ) → is_live (f b) ≡ is_live (g b)) where
  pub lowest-same : (l : List (List ℕ)) → lowest_free (map f l) ≡ lowest_free (map g l)
  unfolding lowest_free
  lowest-same [] = refl
  lowest-same (b ∷ l) = lowest_step (f b) (g b) (map f l) (map g l) (same b) (lowest-same l)

  pub slots_same : (l : List (List ℕ)) → free_slots (map f l) ≡ free_slots (map g l)
  unfolding free_slots
  slots_same [] = refl
  slots_same (b ∷ l) = slots-step (f b) (g b) (map f l) (map g l) (same b) (slots_same l)

  pub live_same : (l : List (List ℕ)) (i : ℕ) → live_at (map f l) i ≡ live_at (map g l) i
  unfolding is_live
  live_same [] i = refl
  live_same (b ∷ l) zero = same b
  live_same (b ∷ l) (suc i) = live_same l i

-- A slot is free exactly when its state byte is zero.

pub state-byte : (b : List ℕ) → is_live (state_of b) ≡ not (eqb (get_or b state_place 0) 0)
unfolding state_of
state-byte b = is_live_choose (eqb (get_or b state_place 0) 0) tt

pub state-node : (b : List ℕ) → is_live (read_node b) ≡ is_live (state_of b)
state-node b = is_live_read_node b ∙ sym (state-byte b)

module _ (L : Layout) where
  pub state-edge : (b : List ℕ) → is_live (read_edge L b) ≡ is_live (state_of b)
  state-edge b = is_live-read_edge L b ∙ sym (state-byte b)

  -- What each table says, by its states.

  pub live-nodes : (bs : List ℕ) (i : ℕ) → live_at (read_nodes L bs) i ≡ live_at (states (node_length L) bs) i
  live-nodes bs = live_same read_node state_of state-node (cut (node_length L) bs)

  pub live-edges : (bs : List ℕ) (i : ℕ) → live_at (read_edges L bs) i ≡ live_at (states (edge_length L) bs) i
  live-edges bs = live_same (read_edge L) state_of state-edge (cut (edge_length L) bs)

  pub lowest-nodes : (bs : List ℕ) → lowest_free (read_nodes L bs) ≡ lowest_free (states (node_length L) bs)
  lowest-nodes bs = lowest-same read_node state_of state-node (cut (node_length L) bs)

  pub lowest-edges : (bs : List ℕ) → lowest_free (read_edges L bs) ≡ lowest_free (states (edge_length L) bs)
  lowest-edges bs = lowest-same (read_edge L) state_of state-edge (cut (edge_length L) bs)

  pub slots-nodes : (bs : List ℕ) → free_slots (read_nodes L bs) ≡ free_slots (states (node_length L) bs)
  slots-nodes bs = slots_same read_node state_of state-node (cut (node_length L) bs)

  pub slots-edges : (bs : List ℕ) → free_slots (read_edges L bs) ≡ free_slots (states (edge_length L) bs)
  slots-edges bs = slots_same (read_edge L) state_of state-edge (cut (edge_length L) bs)
