-- Laws of slots: live slots, the lowest free slot and the free slots, what a change does to the tables, and putting back what
-- stood in a slot. Rests on Layout and Applying.
use Rattle.std.specs.Prelude.{ℕ, zero, suc, ◌+◌, ◌<◌, ◌≤◌, ◌≡◌, refl, List, [], ◌∷◌, ◌++◌, true, false, length, get_or, set}
use Rattle.std.proofs.Common.{◌∙◌, ap, arith, length-set, set-set}
use Rattle.std.proofs.lemmas.List.{set-get_or}
use Rattle.meaning.specs.Layout.{Slot, free, live, Node, Edge, Host, Tables, is_live, live_at, Change, of_node, of_edge, put, undone}
use Rattle.meaning.specs.Applying.{standing, lowest_free, free_slots}

-- Live slots.

-- a live slot is in the table
pub live_at_lt : {A : Type 0} (l : List (Slot A)) (i : ℕ) → live_at l i ≡ true → i < length l
unfolding is_live
live_at_lt [] i e = let z : ◌≡◌ {A = ℕ} 0 1 = cc in absurd (omega arith)
live_at_lt (s ∷ l) zero e = omega arith
live_at_lt (s ∷ l) (suc i) e = let h = live_at_lt l i e in omega arith

-- a free slot, or a live one of which P holds
abbrev pub OnLive : {A : Type 0} → (A → Type 0) → Slot A → Type 0
OnLive P free = Unit {0}
OnLive P (live a) = P a

-- one slot changed
pub OnLive-set : {A : Type 0} (P : A → Type 0) (t : List (Slot A)) (x : ℕ) (s : Slot A) → OnLive P s
    → ((i : ℕ) → OnLive P (get_or t i free)) → (i : ℕ) → OnLive P (get_or (set t x s) i free)
OnLive-set P [] x s h k i = tt
OnLive-set P (a ∷ t) zero s h k zero = h
OnLive-set P (a ∷ t) zero s h k (suc i) = k (suc i)
OnLive-set P (a ∷ t) (suc x) s h k zero = k 0
OnLive-set P (a ∷ t) (suc x) s h k (suc i) = OnLive-set P t x s h (λ j. k (suc j)) i

pub live-set : {A : Type 0} (t : List (Slot A)) (x : ℕ) (a : A) (y : ℕ) → live_at t y ≡ true → live_at (set t x (live a)) y ≡ true
unfolding is_live
live-set [] x a y h = h
live-set (s ∷ t) zero a zero h = refl
live-set (s ∷ t) zero a (suc y) h = h
live-set (s ∷ t) (suc x) a zero h = h
live-set (s ∷ t) (suc x) a (suc y) h = live-set t x a y h

pub free-set : {A : Type 0} (t : List (Slot A)) (x : ℕ) → get_or (set t x free) x free ≡ free
free-set [] x = refl
free-set (s ∷ t) zero = refl
free-set (s ∷ t) (suc x) = free-set t x

-- The lowest free slot.

pub lowest_free_lt : {A : Type 0} (l : List (Slot A)) → 0 < free_slots l → lowest_free l < length l
unfolding lowest_free free_slots
lowest_free_lt [] h = absurd (omega arith)
lowest_free_lt (free ∷ l) h = omega arith
lowest_free_lt (live a ∷ l) h = let k = lowest_free_lt l h in omega arith

-- it is free; where no slot is free it is the table's length
pub lowest_free-free : {A : Type 0} (l : List (Slot A)) → get_or l (lowest_free l) free ≡ free
unfolding lowest_free
lowest_free-free [] = refl
lowest_free-free (free ∷ l) = refl
lowest_free-free (live a ∷ l) = lowest_free-free l

-- The free slots.

pub free_slots_le : {A : Type 0} (l : List (Slot A)) → free_slots l ≤ length l
unfolding free_slots
free_slots_le [] = omega arith
free_slots_le (free ∷ l) = let h = free_slots_le l in omega arith
free_slots_le (live a ∷ l) = let h = free_slots_le l in omega arith

pub free_slots_append : {A : Type 0} (l m : List (Slot A)) → free_slots (l ++ m) ≡ free_slots l + free_slots m
unfolding free_slots
free_slots_append [] m = omega arith
free_slots_append (free ∷ l) m = let h = free_slots_append l m in omega arith
free_slots_append (live a ∷ l) m = let h = free_slots_append l m in omega arith

-- one fewer where a free slot becomes live, one more where a live slot becomes free, as many where a live slot stays live
pub free_slots-come : {A : Type 0} (l : List (Slot A)) (i : ℕ) (a : A) → i < length l → live_at l i ≡ false
    → suc (free_slots (set l i (live a))) ≡ free_slots l
unfolding free_slots is_live
free_slots-come [] i a h e = absurd (omega arith)
free_slots-come (free ∷ l) zero a h e = refl
free_slots-come (live b ∷ l) zero a h e = let z : ◌≡◌ {A = ℕ} 0 1 = cc in absurd (omega arith)
free_slots-come (free ∷ l) (suc i) a h e = ap suc (free_slots-come l i a (omega arith) e)
free_slots-come (live b ∷ l) (suc i) a h e = free_slots-come l i a (omega arith) e

pub free_slots-go : {A : Type 0} (l : List (Slot A)) (i : ℕ) → live_at l i ≡ true
    → free_slots (set l i free) ≡ suc (free_slots l)
unfolding free_slots is_live
free_slots-go [] i e = let z : ◌≡◌ {A = ℕ} 0 1 = cc in absurd (omega arith)
free_slots-go (free ∷ l) zero e = let z : ◌≡◌ {A = ℕ} 0 1 = cc in absurd (omega arith)
free_slots-go (live b ∷ l) zero e = refl
free_slots-go (free ∷ l) (suc i) e = ap suc (free_slots-go l i e)
free_slots-go (live b ∷ l) (suc i) e = free_slots-go l i e

pub free_slots_stay : {A : Type 0} (l : List (Slot A)) (i : ℕ) (a : A) → live_at l i ≡ true
    → free_slots (set l i (live a)) ≡ free_slots l
unfolding free_slots is_live
free_slots_stay [] i a e = refl
free_slots_stay (free ∷ l) zero a e = let z : ◌≡◌ {A = ℕ} 0 1 = cc in absurd (omega arith)
free_slots_stay (live b ∷ l) zero a e = refl
free_slots_stay (free ∷ l) (suc i) a e = ap suc (free_slots_stay l i a e)
free_slots_stay (live b ∷ l) (suc i) a e = free_slots_stay l i a e

-- What a change does to the tables.

pub put-nodes : {A B : Type 0} (c : Change A B) (t : Tables A B) → length (put c t).nodes ≡ length t.nodes
unfolding put
put-nodes (of_node i a) t = length-set t.nodes i a
put-nodes (of_edge i b) t = refl

pub put-edges : {A B : Type 0} (c : Change A B) (t : Tables A B) → length (put c t).edges ≡ length t.edges
unfolding put
put-edges (of_node i a) t = refl
put-edges (of_edge i b) t = length-set t.edges i b

-- Putting back.

pub undone_append : {A B : Type 0} (a b : List (Change A B)) (t : Tables A B)
    → undone (a ++ b) t ≡ undone b (undone a t)
unfolding undone
undone_append [] b t = refl
undone_append (c ∷ a) b t = undone_append a b (put c t)

pub undone-nodes : {A B : Type 0} (l : List (Change A B)) (t : Tables A B)
    → length (undone l t).nodes ≡ length t.nodes
unfolding undone
undone-nodes [] t = refl
undone-nodes (c ∷ l) t = undone-nodes l (put c t) ∙ put-nodes c t

-- what stood in a slot, put back after a change of that slot, gives the host before
pub put-back : (c : Change (Slot Node) (Slot Edge)) (h : Host) → put (standing c h) (put c h) ≡ h
unfolding put standing
put-back (of_node i s) h =
    let e = set-set h.nodes i s (get_or h.nodes i free) ∙ set-get_or h.nodes i free in
    ap (λ (l : List (Slot Node)). record { nodes = l; edges = h.edges }) e
put-back (of_edge i s) h =
    let e = set-set h.edges i s (get_or h.edges i free) ∙ set-get_or h.edges i free in
    ap (λ (l : List (Slot Edge)). record { nodes = h.nodes; edges = l }) e
