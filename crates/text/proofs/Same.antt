-- A host that is closed up is the same graph: live slot i is the slot of its rank, in the same order, no other slot is live, and each
-- edge's ends are the ranks of its ends. Rests on Text and Closed.
use Rattle.std.proofs.Math.Path.{◌≡◌, refl, ap}
use Rattle.std.specs.Prelude.{true, get_or, replicate}
use mathlib.Core.List.{List, [], ◌∷◌, ◌++◌, map, map-id}
use Prim.Native.Nat.{ℕ, zero, suc, ◌-◌, ◌<◌}
use native.Mathlib.Omega.{arith}
use Rattle.std.proofs.Math.ListN.{length}
use Rattle.std.proofs.lemmas.List.{length-map}
use Rattle.meaning.specs.Layout.{Slot, free, live, is_live, live_at, Node, Edge, Host}
use Rattle.text.specs.Text.{filled}
use Rattle.text.specs.Closed.{lives, rank, moved, closed}

module _ {A : Type 0} where
  -- the order is kept, so no two live slots have one rank
  pub rank_order : (slots : List (Slot A)) (i j : ℕ) → live_at slots i ≡ true → i < j → rank slots i < rank slots j
  unfolding lives is_live
  rank_order [] i j e h = let z : ◌≡◌ {A = ℕ} 0 1 = cc in absurd (omega arith)
  rank_order (s ∷ slots) i zero e h = absurd (omega arith)
  rank_order (free ∷ slots) zero (suc j) e h = let z : ◌≡◌ {A = ℕ} 0 1 = cc in absurd (omega arith)
  rank_order (free ∷ slots) (suc i) (suc j) e h = rank_order slots i j e (omega arith)
  rank_order (live a ∷ slots) zero (suc j) e h = omega arith
  rank_order (live a ∷ slots) (suc i) (suc j) e h = let k = rank_order slots i j e (omega arith) in omega arith

  -- each number below that of the live slots is the rank of one
  pub rank_onto : (slots : List (Slot A)) (j : ℕ) → j < length (lives slots) → (i : ℕ) × (live_at slots i ≡ true) × (rank slots i ≡ j)
  unfolding lives is_live
  rank_onto [] j h = absurd (omega arith)
  rank_onto (free ∷ slots) j h = let t = rank_onto slots j h in (suc t.0, t.1, t.2)
  rank_onto (live a ∷ slots) zero h = (0, refl, refl)
  rank_onto (live a ∷ slots) (suc j) h = let t = rank_onto slots j (omega arith) in (suc t.0, t.1, ap suc t.2)

  -- of a table whose first slots are the live ones, no other is live
  front-only : (l : List A) (n j : ℕ) → live_at (map live l ++ replicate n free) j ≡ true → j < length l
  unfolding is_live
  front-only [] zero j e = let z : ◌≡◌ {A = ℕ} 0 1 = cc in absurd (omega arith)
  front-only [] (suc n) zero e = let z : ◌≡◌ {A = ℕ} 0 1 = cc in absurd (omega arith)
  front-only [] (suc n) (suc j) e = let h = front-only [] n j e in absurd (omega arith)
  front-only (a ∷ l) n zero e = omega arith
  front-only (a ∷ l) n (suc j) e = let h = front-only l n j e in omega arith

module _ {A B : Type 0} (f : A → B) where
  -- what a live slot holds is in the slot of its rank
  front_at : (slots : List (Slot A)) (r : List (Slot B)) (i : ℕ) (a : A) → get_or slots i free ≡ live a
      → get_or (map live (map f (lives slots)) ++ r) (rank slots i) free ≡ live (f a)
  unfolding lives
  front_at [] r i a e = let z : ◌≡◌ {A = ℕ} 0 1 = cc in absurd (omega arith)
  front_at (free ∷ slots) r zero a e = let z : ◌≡◌ {A = ℕ} 0 1 = cc in absurd (omega arith)
  front_at (free ∷ slots) r (suc i) a e = front_at slots r i a e
  front_at (live b ∷ slots) r zero a e = let q : b ≡ a = cc in rw q
  front_at (live b ∷ slots) r (suc i) a e = front_at slots r i a e

  -- and a live slot there is the rank of one
  rank-of : (n : ℕ) (slots : List (Slot A)) (j : ℕ) → live_at (filled n (map f (lives slots))) j ≡ true
      → (i : ℕ) × (live_at slots i ≡ true) × (rank slots i ≡ j)
  unfolding filled
  rank-of n slots j e =
      rank_onto slots j (rw (length-map (lives slots) f) at (front-only (map f (lives slots)) (n - length (map f (lives slots))) j e))

module _ (m n : ℕ) (h : Host) where
  pub closed-node : (i : ℕ) (a : Node) → get_or h.nodes i free ≡ live a → get_or (closed m n h).nodes (rank h.nodes i) free ≡ live a
  unfolding filled
  closed-node i a e =
      rw (map-id (lives h.nodes)) at (front_at (λ a. a) h.nodes (replicate (m - length (lives h.nodes)) free) i a e)

  pub closed-edge : (i : ℕ) (a : Edge) → get_or h.edges i free ≡ live a
      → get_or (closed m n h).edges (rank h.edges i) free ≡ live (moved h.nodes a)
  unfolding filled
  closed-edge i a e = front_at (moved h.nodes) h.edges _ i a e

  pub only-nodes : (j : ℕ) → live_at (closed m n h).nodes j ≡ true → (i : ℕ) × (live_at h.nodes i ≡ true) × (rank h.nodes i ≡ j)
  only-nodes j e = rank-of (λ a. a) m h.nodes j (rw (map-id (lives h.nodes)) e)

  pub only-edges : (j : ℕ) → live_at (closed m n h).edges j ≡ true → (i : ℕ) × (live_at h.edges i ≡ true) × (rank h.edges i ≡ j)
  only-edges j e = rank-of (moved h.nodes) n h.edges j e
