-- Laws of `count`: where each number below n that passes f comes from one below m that passes g, no more pass f than g.
-- Rests on the meaning's Basics.
use Rattle.std.proofs.Math.Path.{◌≡◌, refl}
use Rattle.std.proofs.Common.{◌∙◌, ap, eq-eqb, ne_eqb}
use Rattle.std.specs.Prelude.{Bool, not, eqb}
use Rattle.std.proofs.Math.Bool.{true, false}
use Prim.Native.Nat.{ℕ, zero, suc, ◌<◌, ◌≤◌}
use native.Mathlib.Omega.{arith}
use Rattle.std.proofs.Math.Decide.{ℕ_discrete}
use Rattle.meaning.specs.Basics.{choose, both, count}
use Rattle.meaning.specs.Laws.Tests.{both_true, both_yes, both_of}

-- no more pass a stricter test, and fewer where it differs somewhere
module _ (f g : ℕ → Bool) where
  pub count_le : (n : ℕ) → ((x : ℕ) → x < n → f x ≡ true → g x ≡ true) → count f n ≤ count g n
  unfolding count choose
  count_le zero h = omega arith
  count_le (suc n) h = at (f n) (g n) (h n (omega arith)) (count_le n (λ x k. h x (omega arith)))
    where
      at : (a b : Bool) → (a ≡ true → b ≡ true) → count f n ≤ count g n
          → choose a (suc (count f n)) (count f n) ≤ choose b (suc (count g n)) (count g n)
      at true true i c = omega arith
      at true false i c = let e = i refl in let z : ◌≡◌ {A = ℕ} 0 1 = cc in absurd (omega arith)
      at false true i c = omega arith
      at false false i c = c

  pub count_lt : (n k : ℕ) → ((x : ℕ) → x < n → f x ≡ true → g x ≡ true) → k < n → f k ≡ false → g k ≡ true
      → count f n < count g n
  unfolding count choose
  count_lt zero k h l e d = absurd (omega arith)
  count_lt (suc n) k h l e d =
      at (ℕ_discrete k n) (f n) (g n) refl refl (h n (omega arith)) (λ i. count_lt n k (λ x j. h x (omega arith)) i e d)
    where
      at : Dec (k ≡ n) → (a b : Bool) → f n ≡ a → g n ≡ b → (a ≡ true → b ≡ true) → (k < n → count f n < count g n)
          → choose a (suc (count f n)) (count f n) < choose b (suc (count g n)) (count g n)
      at (yes q) true b s t i c = let z : ◌≡◌ {A = ℕ} 0 1 = cc in absurd (omega arith)
      at (yes q) false true s t i c = let j = count_le n (λ x j. h x (omega arith)) in omega arith
      at (yes q) false false s t i c = let z : ◌≡◌ {A = ℕ} 0 1 = cc in absurd (omega arith)
      at (no q) true true s t i c = let j = c (omega arith) in omega arith
      at (no q) true false s t i c = let e = i refl in let z : ◌≡◌ {A = ℕ} 0 1 = cc in absurd (omega arith)
      at (no q) false true s t i c = let j = c (omega arith) in omega arith
      at (no q) false false s t i c = c (omega arith)

-- each number that passes f is s of one that passes g
pub count-from : (f g : ℕ → Bool) (s : ℕ → ℕ) (n m : ℕ)
    → ((x : ℕ) → x < n → f x ≡ true → (k : ℕ) × (k < m) × (g k ≡ true) × (s k ≡ x)) → count f n ≤ count g m
unfolding count choose
count-from f g s zero m h = omega arith
count-from f g s (suc n) m h =
    at (f n) refl (count-from f g s n m (λ x k. h x (omega arith))) (λ g'. count-from f g' s n m)
  where
    at : (b : Bool) → f n ≡ b → count f n ≤ count g m
        → ((g' : ℕ → Bool) → ((x : ℕ) → x < n → f x ≡ true → (k : ℕ) × (k < m) × (g' k ≡ true) × (s k ≡ x))
        → count f n ≤ count g' m)
        → choose b (suc (count f n)) (count f n) ≤ count g m
    at false q a ih = a
    at true q a ih =
        let t = h n (omega arith) q in
        let without : ℕ → Bool = λ k. both (g k) (not (eqb k t.0)) in
        let gone : without t.0 ≡ false = both_yes _ _ t.2 ∙ ap not (eq-eqb t.0 t.0 refl) in
        let low = count_lt without g m t.0 (λ x k e. (both_true _ _ e).0) t.1 gone t.2 in
        let few = ih without (λ x k e.
        let u = h x (omega arith) e in
        let apart : u.0 ≡ t.0 → ⊥ = λ d. omega (arith, k, u.3, t.3, ap s d) in
        (u.0, u.1, both_of _ _ u.2 (ap not (ne_eqb u.0 t.0 apart)), u.3))
        in
        omega (arith, low, few)
