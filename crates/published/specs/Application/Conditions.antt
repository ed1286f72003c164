-- Labels and tests in a host's graph: a left label's instance is what matching says, and a test is true exactly where matching
-- says so. Rests on RuleApplication and meaning's Matching.
use Rattle.std.specs.Prelude.{ℕ, ◌<◌, Bool, List, length, get_or}
use Rattle.std.proofs.Math.Path.{◌≡◌}
use Rattle.std.proofs.Math.Bool.{true}

pub record Passing (f : ℕ → Bool) (n m : ℕ) (l : List ℕ) : Type 0 where
  pub size : length l ≡ m
  pub below : (i : ℕ) → i < m → get_or l i 0 < n
  pub passes : (i : ℕ) → i < m → f (get_or l i 0) ≡ true
  pub apart : (i j : ℕ) → i < m → j < m → get_or l i 0 ≡ get_or l j 0 → i ≡ j
  pub all : (x : ℕ) → x < n → f x ≡ true → (i : ℕ) × (i < m) × (get_or l i 0 ≡ x)

-- P holds of exactly the numbers below n that pass f
pub record Tested (f : ℕ → Bool) (n : ℕ) (P : ℕ → Type 0) : Type 0 where
  pub below : (x : ℕ) → P x → x < n
  pub passes : (x : ℕ) → P x → f x ≡ true
  pub holds : (x : ℕ) → f x ≡ true → P x
