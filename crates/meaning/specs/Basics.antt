-- Tests, lists and optional values: the few words that all the definitions are written in.
-- Rests on the libraries alone.
use Rattle.std.specs.Prelude.{Bool, true, false, not, List, [], ◌∷◌, ◌++◌, ℕ, zero, suc, ◌-◌, length, replicate, eqb}
use Rattle.std.proofs.Math.Option.{Option, some, none}

-- Tests.

unfoldable pub choose {ℓ} : {A : Type ℓ} → Bool → A → A → A
choose true a b = a
choose false a b = b

unfoldable pub both : Bool → Bool → Bool
both true b = b
both false b = false

unfoldable pub either : Bool → Bool → Bool
either true b = true
either false b = b

-- each clause of the list holds
unfoldable pub clauses : List Bool → Bool
clauses [] = true
clauses (b ∷ bs) = both b (clauses bs)

-- each of the numbers below n passes; one of them does
unfoldable pub all : (ℕ → Bool) → ℕ → Bool
all f zero = true
all f (suc n) = let r = all f n in both (f n) r

unfoldable pub exists : (ℕ → Bool) → ℕ → Bool
exists f zero = false
exists f (suc n) = let r = exists f n in either (f n) r

-- how many of the numbers below n pass
unfoldable pub count : (ℕ → Bool) → ℕ → ℕ
count f zero = zero
count f (suc n) = let r = count f n in choose (f n) (suc r) r

-- each element of the list passes
unfoldable pub every : {A : Type 0} → (A → Bool) → List A → Bool
every f [] = true
every f (a ∷ l) = let r = every f l in both (f a) r

-- Lists of numbers.

unfoldable pub absent : ℕ → List ℕ → Bool
absent c [] = true
absent c (a ∷ l) = both (not (eqb a c)) (absent c l)

unfoldable pub same : List ℕ → List ℕ → Bool
same [] [] = true
same [] (b ∷ m) = false
same (a ∷ l) [] = false
same (a ∷ l) (b ∷ m) = both (eqb a b) (same l m)

unfoldable pub zeros : List ℕ → Bool
zeros [] = true
zeros (b ∷ bs) = both (eqb b 0) (zeros bs)

-- Lists.

unfoldable pub is_empty : {A : Type 0} → List A → Bool
is_empty [] = true
is_empty (a ∷ l) = false

unfoldable pub concat : {A : Type 0} → List (List A) → List A
concat [] = []
concat (l ∷ ls) = l ++ concat ls

-- the list with zeros behind it, n numbers in all
abbrev pub padded : ℕ → List ℕ → List ℕ
padded n l = l ++ replicate (n - length l) 0

-- Optional values.

unfoldable pub is_some : {A : Type 0} → Option A → Bool
is_some none = false
is_some (some a) = true

infixl 10 ◌>>=◌
infixl 10 ◌>>◌
unfoldable pub ◌>>=◌ : {A B : Type 0} → Option A → (A → Option B) → Option B
none >>= f = none
some a >>= f = f a

-- what stands behind a test is there where the test holds
unfoldable pub ensure : Bool → Option (Unit {0})
ensure true = some tt
ensure false = none

unfoldable pub ◌>>◌ : {B : Type 0} → Option (Unit {0}) → Option B → Option B
none >> o = none
some u >> o = o

-- the value of f at each element, where it has one at all of them
unfoldable pub each : {A B : Type 0} → (A → Option B) → List A → Option (List B)
each f [] = some []
each f (a ∷ l) = do
  b ← f a
  m ← each f l
  some (b ∷ m)

-- what goes with the first test that does not hold
unfoldable pub first_failing : {A : Type 0} → List (Bool × A) → Option A
first_failing [] = none
first_failing (c ∷ cs) = let later = first_failing cs in choose c.0 later (some c.1)
