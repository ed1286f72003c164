-- Laws of slots: whether one is live, and the search for free ones.
use Prim.Native.Nat.{ℕ, zero, suc, ◌+◌, ◌/◌, ◌<◌, ◌≤◌}
use mathlib.Core.Path.{◌≡◌, refl, sym, ◌∙◌, ap}
use mathlib.Core.List.{List, [], ◌∷◌}
use mathlib.Core.Bool.{true, false}
use native.Mathlib.Omega.{arith}
use native.Mathlib.Numerals.{add-one}
use lib.ListN.{length, get_or, drop, get_or-eq_default, length-map, drop_of_length-le}
use lib.Seq.{drop-cons}
use Rattle.std.specs.Prelude.{Option, Some, None}
use Rattle.std.specs.Option.{MatchOption, unwrap_or}
use Rattle.meaning.specs.Layout.{Slot, free, live, is_live, live_at, cut}
use Rattle.meaning.specs.Applying.{lowest_free, free_slots}
use Rattle.laws.specs.Pieces.{length-pieces}
use Rattle.slots.specs.Slots.{state_of, states}

-- A slot that is not there.

pub live-outside : (w i : ℕ) (bs : List ℕ) → length bs / w ≤ i → live_at (states w bs) i ≡ false
unfolding is_live
live-outside w i bs h = ap is_live (get_or-eq_default (states w bs) free {n = i} (rw (length-map (cut w bs) state_of, length-pieces) h))

-- The lowest free slot.

module _ {A : Type 0} where
  -- a free slot with live ones alone below it is the lowest, and so is the number of slots, where none is free
  lowest-at : (l : List (Slot A)) (i : ℕ) → i ≤ length l → ((k : ℕ) → k < i → live_at l k ≡ true) → (i < length l → live_at l i ≡ false) → i ≡ lowest_free l
  unfolding is_live lowest_free
  lowest-at [] zero h below here = refl
  lowest-at [] (suc i) h below here = absurd (omega arith)
  lowest-at (free ∷ l) zero h below here = refl
  lowest-at (free ∷ l) (suc i) h below here = let q = below 0 (omega arith) in let z : ◌≡◌ {A = ℕ} 0 1 = cc in absurd (omega arith)
  lowest-at (live a ∷ l) zero h below here = let q = here (omega arith) in let z : ◌≡◌ {A = ℕ} 0 1 = cc in absurd (omega arith)
  lowest-at (live a ∷ l) (suc i) h below here = ap suc (lowest-at l i (omega arith) (λ k j. below (suc k) (omega arith)) (λ j. here (omega arith)))

  -- what a search from the first slot on gives
  pub lowest-found : (l : List (Slot A)) (n : ℕ) (r : Option ℕ) → length l ≡ n
      → MatchOption r ((k : ℕ) → 0 ≤ k → k < n → live_at l k ≡ true) (λ i. (0 ≤ i) × (i < n) × (live_at l i ≡ false) × ((k : ℕ) → 0 ≤ k → k < i → live_at l k ≡ true))
      → unwrap_or r n ≡ lowest_free l
  lowest-found l n None e h = lowest-at l n (omega arith) (λ k j. h k (omega arith) j) (λ j. absurd (omega arith))
  lowest-found l n (Some i) e h = lowest-at l i (omega (arith, h.1)) (λ k j. h.3 k (omega arith) j) (λ j. h.2)

-- How many are free, slot by slot.

module _ {A : Type 0} (l : List (Slot A)) (i : ℕ) (h : i < length l) where
  pub slots-live : live_at l i ≡ true → free_slots (drop i l) ≡ free_slots (drop (i + 1) l)
  unfolding is_live free_slots
  slots-live e = rw (add-one i, drop-cons l i free h) (at (get_or l i free) e)
    where
      at : (s : Slot A) → is_live s ≡ true → free_slots (s ∷ drop (suc i) l) ≡ free_slots (drop (suc i) l)
      at free q = let z : ◌≡◌ {A = ℕ} 0 1 = cc in absurd (omega arith)
      at (live a) q = refl

  pub slots-free : live_at l i ≡ false → free_slots (drop i l) ≡ suc (free_slots (drop (i + 1) l))
  unfolding is_live free_slots
  slots-free e = rw (add-one i, drop-cons l i free h) (at (get_or l i free) e)
    where
      at : (s : Slot A) → is_live s ≡ false → free_slots (s ∷ drop (suc i) l) ≡ suc (free_slots (drop (suc i) l))
      at free q = refl
      at (live a) q = let z : ◌≡◌ {A = ℕ} 0 1 = cc in absurd (omega arith)

pub slots_end : {A : Type 0} (l : List (Slot A)) (i : ℕ) → length l ≤ i → free_slots (drop i l) ≡ 0
unfolding free_slots
slots_end l i h = rw (drop_of_length-le l h)

pub length-states : (w : ℕ) (bs : List ℕ) → length (states w bs) ≡ length bs / w
length-states w bs = length-map (cut w bs) state_of ∙ length-pieces w (length bs / w) bs
