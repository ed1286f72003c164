-- Laws of checks in their order: the first that does not hold decides. Rests on Basics.
use Rattle.std.specs.Prelude.{◌≡◌, refl, Bool, true, false, List, [], ◌∷◌, ◌++◌, ℕ}
use Rattle.std.proofs.Math.Option.{Option, some, none}
use Rattle.std.proofs.Common.{arith}
use Rattle.meaning.specs.Basics.{choose, first_failing}
use Rattle.meaning.specs.Laws.Every.{Every}

module _ {A : Type 0} (t : Bool) (w : A) (cs : List (Bool × A)) where
  -- a check that does not hold, and one that does
  pub first-no : t ≡ false → first_failing ((t, w) ∷ cs) ≡ some w
  unfolding first_failing choose
  first-no e = rw e

  pub first-yes : t ≡ true → first_failing ((t, w) ∷ cs) ≡ first_failing cs
  unfolding first_failing choose
  first-yes e = rw e

-- no check is left
pub first-none : {A : Type 0} → first_failing {A = A} [] ≡ none
unfolding first_failing
first-none = refl

-- checks behind others
pub behind-fine : {A : Type 0} (cs ds : List (Bool × A)) → first_failing cs ≡ none → first_failing (cs ++ ds) ≡ first_failing ds
unfolding first_failing choose
behind-fine [] ds e = refl
behind-fine {A} (c ∷ cs) ds e = at c.0 refl e (behind-fine cs ds)
  where
    at : (t : Bool) → c.0 ≡ t → choose t (first_failing cs) (some c.1) ≡ none → (first_failing cs ≡ none → first_failing (cs ++ ds) ≡ first_failing ds)
        → choose c.0 (first_failing (cs ++ ds)) (some c.1) ≡ first_failing ds
    at true q e r = rw q (r e)
    at false q e r = let z : ◌≡◌ {A = Option A} (some c.1) none = e in cc

pub behind-refused : {A : Type 0} (cs ds : List (Bool × A)) (w : A) → first_failing cs ≡ some w → first_failing (cs ++ ds) ≡ some w
unfolding first_failing choose
behind-refused [] ds w e = cc
behind-refused (c ∷ cs) ds w e = at c.0 refl e (behind-refused cs ds w)
  where
    at : (t : Bool) → c.0 ≡ t → choose t (first_failing cs) (some c.1) ≡ some w → (first_failing cs ≡ some w → first_failing (cs ++ ds) ≡ some w)
        → choose c.0 (first_failing (cs ++ ds)) (some c.1) ≡ some w
    at true q e r = rw q (r e)
    at false q e r = rw q e

-- the first of some tests holds if no test fails, and so do the later ones
pub first_failing-none : {A : Type 0} (b : Bool) (a : A) (l : List (Bool × A)) → first_failing ((b, a) ∷ l) ≡ none
    → (b ≡ true) × (first_failing l ≡ none)
unfolding first_failing choose
first_failing-none true a l e = (refl, e)
first_failing-none false a l e = let z : ◌≡◌ {A = ℕ} 0 1 = cc in absurd (omega arith)

-- what holds of each thing that goes with a test holds of the one that goes with the first failing test
pub failing-of : {A : Type 0} (P : A → Type 0) (l : List (Bool × A)) → Every (λ c. P c.1) l → (a : A) → first_failing l ≡ some a
    → P a
unfolding first_failing choose
failing-of P [] h a e = let z : ◌≡◌ {A = ℕ} 0 1 = cc in absurd (omega arith)
failing-of {A} P (c ∷ l) h a e = at c.0 e (failing-of P l h.1 a)
  where
    at : (b : Bool) → choose b (first_failing l) (some c.1) ≡ some a → (first_failing l ≡ some a → P a) → P a
    at true q r = r q
    at false q r = let i : a ≡ c.1 = cc in rw i h.0
