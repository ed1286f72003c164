-- Laws of Search: `deep` finds the lowest placement, and `none` only where there is none; of two placements of one size, one
-- is before the other or they are the same. Rests on the meaning's Search and Matching.
use Prim.Native.Nat.{ℕ, zero, suc, ◌-◌, ◌<◌, ◌≤◌}
use Rattle.std.specs.Prelude.{◌≡◌, Bool, true, false, length, get_or, take}
use Rattle.std.proofs.Math.Path.{refl}
use Rattle.std.proofs.Common.{sym, ◌∙◌, ap, inl, inr, ⊎_elim, le_refl}
use mathlib.Core.List.{List, [], ◌∷◌, ◌++◌, append_assoc, append-nil}
use Rattle.std.proofs.Math.Option.{Option, some, none}
use native.Mathlib.Omega.{arith}
use Rattle.std.proofs.Math.Decide.{dec_lt, ℕ_discrete}
use Rattle.meaning.specs.Search.{pick, found_if, scan, deep, Ext}
use Rattle.meaning.specs.Matching.{Before}

abbrev pub From : ℕ → List ℕ → Type 0
From c [] = Unit {0}
From c (a ∷ q) = c ≤ a

pub from_zero : (t : List ℕ) → From 0 t
from_zero [] = tt
from_zero (a ∷ t) = omega arith

module _ (bound : List ℕ → ℕ) (ok : List ℕ → ℕ → Bool) (full : List ℕ → Bool) where
  -- what `deep m p c` searches
  pub record In (m : ℕ) (p : List ℕ) (c : ℕ) (q : List ℕ) : Type 0 where
    pub size : length q ≡ m
    pub good : Ext bound ok full p q
    pub from : From c q

  -- r is the lowest of those, behind p
  abbrev pub Low : ℕ → List ℕ → ℕ → Option (List ℕ) → Type 0
  Low m p c none = (q : List ℕ) → In m p c q → ⊥
  Low m p c (some r) = (q : List ℕ) × (r ≡ p ++ q) × In m p c q × ((t : List ℕ) → In m p c t → Before t q → ⊥)

  found-low : (p : List ℕ) (c : ℕ) (b : Bool) → full p ≡ b → Low 0 p c (found_if b p)
  found-low p c true e = ([], sym (append-nil p), record { size = refl; good = e; from = tt }, no-before)
    where
      no-before : (t : List ℕ) → In 0 p c t → Before t [] → ⊥
      no-before [] s b = b
      no-before (a ∷ t) s b = b
  found-low p c false e = nothing
    where
      nothing : (q : List ℕ) → In 0 p c q → ⊥
      nothing [] s = let g : full p ≡ true = s.good in let z : ◌≡◌ {A = ℕ} 0 1 = cc in omega arith
      nothing (a ∷ q) s = let h : suc (length q) ≡ 0 = s.size in omega arith

  module _ (m : ℕ) (p : List ℕ) (c : ℕ) where
    -- what starts with c goes on behind p and c
    behind : (a : ℕ) (t : List ℕ) → a ≡ c → In (suc m) p c (a ∷ t) → In m (p ++ c ∷ []) 0 t
    behind a t e s =
        let h : suc (length t) ≡ suc m = s.size in
        record { size = omega arith; good = rw e at s.good.2; from = from_zero t }

    -- nothing starts with c: what starts at c or above starts above it
    up : ((t : List ℕ) → c < bound p → ok p c ≡ true → In m (p ++ c ∷ []) 0 t → ⊥)
        → (q : List ℕ) → In (suc m) p c q → In (suc m) p (suc c) q
    up no-c [] s = record { size = s.size; good = s.good; from = tt }
    up no-c (a ∷ t) s = record { size = s.size; good = s.good; from = above (ℕ_discrete a c) }
      where
        above : Dec (a ≡ c) → suc c ≤ a
        above (yes e) = absurd (no-c t (rw e at s.good.0) (rw e at s.good.1) (behind a t e s))
        above (no n) = let h : c ≤ a = s.from in omega arith

    down : (q : List ℕ) → In (suc m) p (suc c) q → In (suc m) p c q
    down [] s = record { size = s.size; good = s.good; from = tt }
    down (a ∷ t) s = record { size = s.size; good = s.good; from = let h : suc c ≤ a = s.from in omega arith }

    wider : ((t : List ℕ) → c < bound p → ok p c ≡ true → In m (p ++ c ∷ []) 0 t → ⊥)
        → (r : Option (List ℕ)) → Low (suc m) p (suc c) r → Low (suc m) p c r
    wider no-c none l = λ q s. l q (up no-c q s)
    wider no-c (some r) l = (l.0, l.1, down l.0 l.2, λ t s b. l.3 t (up no-c t s) b)

    pick_low : (b : Bool) → ok p c ≡ b → c < bound p
        → (h : Option (List ℕ)) → Low m (p ++ c ∷ []) 0 h → (r : Option (List ℕ)) → Low (suc m) p (suc c) r → Low (suc m) p c (pick b h r)
    pick_low true e k (some x) l r n = (
      c ∷ l.0,
      l.1 ∙ append_assoc p (c ∷ []) l.0,
      record { size = ap suc l.2.size; good = (k, e, l.2.good); from = le_refl c },
      lowest,
    )
      where
        lowest : (t : List ℕ) → In (suc m) p c t → Before t (c ∷ l.0) → ⊥
        lowest [] s b = b
        lowest (a ∷ t) s b = ⊎_elim (λ h. let g : c ≤ a = s.from in omega arith) (λ h. l.3 t (behind a t h.0 s) h.1) b
    pick_low true e k none l r n = wider (λ t i j s. l t s) r n
    pick_low false e k h l r n = wider (λ t i j s. let z : ◌≡◌ {A = ℕ} 0 1 = cc in omega arith) r n

  scan-low : (m : ℕ) (p : List ℕ) → ((q : List ℕ) → Low m q 0 (deep bound ok full m q 0))
      → (c k : ℕ) → k ≡ bound p - c → Low (suc m) p c (scan bound ok full (λ q. deep bound ok full m q 0) p c k)
  unfolding scan
  scan-low m p l c zero e = nothing
    where
      nothing : (q : List ℕ) → In (suc m) p c q → ⊥
      nothing [] s = let h : 0 ≡ suc m = s.size in omega arith
      nothing (a ∷ t) s = let h : c ≤ a = s.from in let g : a < bound p = s.good.0 in omega arith
  scan-low m p l c (suc k) e =
      pick_low m p c (ok p c) refl (omega arith) _ (l (p ++ c ∷ [])) _ (scan-low m p l (suc c) k (omega arith))

  pub deep-low : (m : ℕ) (p : List ℕ) (c : ℕ) → Low m p c (deep bound ok full m p c)
  unfolding deep
  deep-low zero p c = found-low p c (full p) refl
  deep-low (suc m) p c = scan-low m p (λ q. deep-low m q 0) c (bound p - c) refl

  -- `Ext` at each level: the slot there, behind those before it
  pub ext_at : (p q : List ℕ) → Ext bound ok full p q → (i : ℕ) → i < length q
      → (get_or q i 0 < bound (p ++ take i q)) × (ok (p ++ take i q) (get_or q i 0) ≡ true)
  ext_at p [] g i h = absurd (omega arith)
  ext_at p (c ∷ q) g zero h = rw append-nil (g.0, g.1)
  ext_at p (c ∷ q) g (suc i) h = rw append_assoc at (ext_at (p ++ c ∷ []) q g.2 i (omega arith))

  pub at_ext : (p q : List ℕ) → full (p ++ q) ≡ true
      → ((i : ℕ) → i < length q → (get_or q i 0 < bound (p ++ take i q)) × (ok (p ++ take i q) (get_or q i 0) ≡ true))
      → Ext bound ok full p q
  at_ext p [] f h = rw append-nil at f
  at_ext p (c ∷ q) f h =
      let z = rw append-nil at (h 0 (omega arith)) in (
        z.0,
        z.1,
        at_ext (p ++ c ∷ []) q (rw append_assoc f) (λ i k. rw append_assoc (h (suc i) (omega arith))),
      )

  pub ext_full : (p q : List ℕ) → Ext bound ok full p q → full (p ++ q) ≡ true
  ext_full p [] g = rw append-nil g
  ext_full p (c ∷ q) g = rw append_assoc at (ext_full (p ++ c ∷ []) q g.2)

-- of two lists of one length, one is before the other or they are the same
pub before-apart : (p q : List ℕ) → length p ≡ length q → (Before p q → ⊥) → (Before q p → ⊥) → p ≡ q
before-apart [] [] e f g = refl
before-apart [] (b ∷ q) e f g = absurd (omega arith)
before-apart (a ∷ p) [] e f g = absurd (omega arith)
before-apart (a ∷ p) (b ∷ q) e f g = at (dec_lt a b) (dec_lt b a) (before-apart p q (omega arith))
  where
    at : Dec (a < b) → Dec (b < a) → ((Before p q → ⊥) → (Before q p → ⊥) → p ≡ q) → ◌≡◌ {A = List ℕ} (a ∷ p) (b ∷ q)
    at (yes h) d r = absurd (f (inl h))
    at (no h) (yes k) r = absurd (g (inl k))
    at (no h) (no k) r =
        let i : a ≡ b = omega arith in
        let j = r (λ x. f (inr (i, x))) (λ x. g (inr (sym i, x))) in
        cc
