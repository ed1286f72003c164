-- Laws of the words in Basics: what a test that holds says, and when it holds.
-- `w-true` and `w-false` read a test's outcome, `w-of` and `w-no` show it, `w-yes` rewrites by a part of it.
use Rattle.std.specs.Prelude.{ℕ, zero, suc, ◌<◌, ◌≤◌, ◌≡◌, refl, List, [], ◌∷◌, ◌++◌, map, Bool, true, false, ◌⊎◌, ltb, eqb, length, get_or, drop, replicate}
use Rattle.std.proofs.Common.{sym, ◌∙◌, ap, inl, inr, arith, eq-eqb, ne_eqb, eqb-true, lt-ltb, le-ltb}
use Rattle.std.proofs.Math.Option.{Option, some, none}
use Rattle.std.proofs.Math.Decide.{ℕ_discrete}
use Rattle.std.proofs.lemmas.Bool.{eqb-false, not-true}
use Rattle.meaning.specs.Basics.{choose, both, either, clauses, all, exists, every, absent, same, zeros, is_empty, is_some, ensure, each, ◌>>◌, ◌>>=◌}

pub not_so : (b : Bool) → (b ≡ true → ⊥) → b ≡ false
not_so true f = absurd (f refl)
not_so false f = refl

pub both_true : (a b : Bool) → both a b ≡ true → (a ≡ true) × (b ≡ true)
unfolding both
both_true true b e = (refl, e)
both_true false b e = let z : ◌≡◌ {A = ℕ} 0 1 = cc in absurd (omega arith)

pub both-no : (a b : Bool) → a ≡ false → both a b ≡ false
unfolding both
both-no a b e = rw e

pub both_yes : (a b : Bool) → a ≡ true → both a b ≡ b
unfolding both
both_yes a b e = rw e

pub both_false : (a : Bool) → both a false ≡ false
unfolding both
both_false true = refl
both_false false = refl

pub both-last : (a : Bool) → a ≡ both a true
unfolding both
both-last true = refl
both-last false = refl

pub choose_lt : {A : Type 0} (a b : ℕ) (x y : A) → a < b → choose (ltb a b) x y ≡ x
unfolding choose
choose_lt a b x y h = rw (lt-ltb a b)

pub choose_le : {A : Type 0} (a b : ℕ) (x y : A) → b ≤ a → choose (ltb a b) x y ≡ y
unfolding choose
choose_le a b x y h = rw (le-ltb a b)

pub absent-true : (c : ℕ) (l : List ℕ) → absent c l ≡ true → (j : ℕ) → j < length l → get_or l j 0 ≡ c → ⊥
unfolding absent
absent-true c [] e j h = omega arith
absent-true c (a ∷ l) e zero h = eqb-false a c (not-true _ (both_true _ _ e).0)
absent-true c (a ∷ l) e (suc j) h = absent-true c l (both_true _ _ e).1 j (omega arith)

pub absent-of : (c : ℕ) (l : List ℕ) → ((j : ℕ) → j < length l → get_or l j 0 ≡ c → ⊥) → absent c l ≡ true
unfolding absent both
absent-of c [] h = refl
absent-of c (a ∷ l) h = rw (ne_eqb a c (h 0 (omega arith))) (absent-of c l (λ j k. h (suc j) (omega arith)))

pub exists-of : (f : ℕ → Bool) (n x : ℕ) → x < n → f x ≡ true → exists f n ≡ true
unfolding exists either
exists-of f zero x h e = absurd (omega arith)
exists-of f (suc n) x h e = at (ℕ_discrete x n) (f n) refl (λ k. exists-of f n x k e)
  where
    at : Dec (x ≡ n) → (b : Bool) → f n ≡ b → (x < n → exists f n ≡ true) → either b (exists f n) ≡ true
    at d true q r = refl
    at (yes d) false q r = let z : ◌≡◌ {A = ℕ} 0 1 = cc in absurd (omega arith)
    at (no d) false q r = r (omega arith)

pub either_left : (a b : Bool) → a ≡ true → either a b ≡ true
unfolding either
either_left a b e = rw e

pub either-right : (a b : Bool) → b ≡ true → either a b ≡ true
unfolding either
either-right true b e = refl
either-right false b e = e

pub exists-false : (f : ℕ → Bool) (n : ℕ) → exists f n ≡ false → (x : ℕ) → x < n → f x ≡ false
exists-false f n e x h = at (f x) refl
  where
    at : (b : Bool) → f x ≡ b → f x ≡ false
    at false q = q
    at true q = let r = exists-of f n x h q in let z : ◌≡◌ {A = ℕ} 0 1 = cc in absurd (omega arith)

pub exists-true : (f : ℕ → Bool) (n : ℕ) → exists f n ≡ true → (x : ℕ) × (x < n) × (f x ≡ true)
unfolding exists either
exists-true f zero e = let z : ◌≡◌ {A = ℕ} 0 1 = cc in absurd (omega arith)
exists-true f (suc n) e = at (f n) refl e (exists-true f n)
  where
    at : (b : Bool) → f n ≡ b → either b (exists f n) ≡ true → (exists f n ≡ true → (x : ℕ) × (x < n) × (f x ≡ true))
        → (x : ℕ) × (x < suc n) × (f x ≡ true)
    at true q e r = (n, omega arith, q)
    at false q e r = let t = r e in (t.0, omega (arith, t.1), t.2)

pub either-last : (a : Bool) → a ≡ either a false
unfolding either
either-last true = refl
either-last false = refl

pub either_true : (a b : Bool) → either a b ≡ true → (a ≡ true) ⊎ (b ≡ true)
unfolding either
either_true true b e = inl refl
either_true false b e = inr e

pub either-not : (a b : Bool) → either a b ≡ true → b ≡ false → a ≡ true
unfolding either
either-not true b e f = refl
either-not false b e f = let z : ◌≡◌ {A = ℕ} 0 1 = cc in absurd (omega arith)

pub absent-false : (c : ℕ) (l : List ℕ) → absent c l ≡ false → (j : ℕ) × (j < length l) × (get_or l j 0 ≡ c)
unfolding absent both
absent-false c [] e = let z : ◌≡◌ {A = ℕ} 0 1 = cc in absurd (omega arith)
absent-false c (a ∷ l) e = at (ℕ_discrete a c) (absent-false c l)
  where
    at : Dec (a ≡ c) → (absent c l ≡ false → (j : ℕ) × (j < length l) × (get_or l j 0 ≡ c)) → (j : ℕ) × (j < suc (length l)) × (get_or (a ∷ l) j 0 ≡ c)
    at (yes q) r = (0, omega arith, q)
    at (no q) r = let t = r (rw (ne_eqb a c q) at e) in (suc t.0, omega (arith, t.1), t.2)

pub exists-no : (f : ℕ → Bool) (n : ℕ) → ((x : ℕ) → x < n → f x ≡ false) → exists f n ≡ false
unfolding exists either
exists-no f zero h = refl
exists-no f (suc n) h = rw (h n (omega arith)) (exists-no f n (λ x k. h x (omega arith)))

pub all_of : (f : ℕ → Bool) (n : ℕ) → ((x : ℕ) → x < n → f x ≡ true) → all f n ≡ true
unfolding all both
all_of f zero h = refl
all_of f (suc n) h = rw (h n (omega arith)) (all_of f n (λ x k. h x (omega arith)))

pub all-no : (f : ℕ → Bool) (n x : ℕ) → x < n → f x ≡ false → all f n ≡ false
unfolding all both
all-no f zero x h e = absurd (omega arith)
all-no f (suc n) x h e = at (ℕ_discrete x n) (f n) refl (λ k. all-no f n x k e)
  where
    at : Dec (x ≡ n) → (b : Bool) → f n ≡ b → (x < n → all f n ≡ false) → both b (all f n) ≡ false
    at d false q r = refl
    at (yes d) true q r = let z : ◌≡◌ {A = ℕ} 0 1 = cc in absurd (omega arith)
    at (no d) true q r = r (omega arith)

pub all_true : (f : ℕ → Bool) (n : ℕ) → all f n ≡ true → (x : ℕ) → x < n → f x ≡ true
all_true f n e x h = at (f x) refl
  where
    at : (b : Bool) → f x ≡ b → f x ≡ true
    at true q = q
    at false q = let r = all-no f n x h q in let z : ◌≡◌ {A = ℕ} 0 1 = cc in absurd (omega arith)

pub choose_eq : {A : Type 0} (a b : ℕ) (x y : A) → a ≡ b → choose (eqb a b) x y ≡ x
unfolding choose
choose_eq a b x y h = rw (eq-eqb a b)

pub choose_ne : {A : Type 0} (a b : ℕ) (x y : A) → (a ≡ b → ⊥) → choose (eqb a b) x y ≡ y
unfolding choose
choose_ne a b x y h = rw (ne_eqb a b h)

pub choose_true : {A : Type 0} (b : Bool) (x y : A) → b ≡ true → choose b x y ≡ x
unfolding choose
choose_true b x y e = rw e

pub choose_false : {A : Type 0} (b : Bool) (x y : A) → b ≡ false → choose b x y ≡ y
unfolding choose
choose_false b x y e = rw e

-- what a choice is, one of the two is
pub choose_either : {A C : Type 0} (b : Bool) (x y z : A) → choose b x y ≡ z → (x ≡ z → C) → (y ≡ z → C) → C
unfolding choose
choose_either true x y z e f g = f e
choose_either false x y z e f g = g e

pub both_of : (a b : Bool) → a ≡ true → b ≡ true → both a b ≡ true
both_of a b e f = both_yes a b e ∙ f

pub every_true : {A : Type 0} (f : A → Bool) (l : List A) (d : A) → every f l ≡ true → (i : ℕ) → i < length l → f (get_or l i d) ≡ true
unfolding every
every_true f [] d e i h = absurd (omega arith)
every_true f (a ∷ l) d e zero h = (both_true _ _ e).0
every_true f (a ∷ l) d e (suc i) h = every_true f l d (both_true _ _ e).1 i (omega arith)

pub every_of : {A : Type 0} (f : A → Bool) (l : List A) (d : A) → ((i : ℕ) → i < length l → f (get_or l i d) ≡ true) → every f l ≡ true
unfolding every
every_of f [] d h = refl
every_of f (a ∷ l) d h = both_of _ _ (h 0 (omega arith)) (every_of f l d (λ i k. h (suc i) (omega arith)))

pub every_append : {A : Type 0} (f : A → Bool) (l m : List A) → every f (l ++ m) ≡ both (every f l) (every f m)
unfolding every both
every_append f [] m = refl
every_append f (a ∷ l) m = at (f a) (every_append f l m)
  where
    at : (b : Bool) → every f (l ++ m) ≡ both (every f l) (every f m) → both b (every f (l ++ m)) ≡ both (both b (every f l)) (every f m)
    at true e = e
    at false e = refl

pub every_map : {A B : Type 0} (f : B → Bool) (h : A → B) (l : List A) → every f (map h l) ≡ every (λ a. f (h a)) l
unfolding every
every_map f h [] = refl
every_map f h (a ∷ l) = ap (both (f (h a))) (every_map f h l)

pub every_drop : {A : Type 0} (f : A → Bool) (m : ℕ) (l : List A) → every f l ≡ true → every f (drop m l) ≡ true
unfolding every
every_drop f zero l e = e
every_drop f (suc m) [] e = e
every_drop f (suc m) (a ∷ l) e = every_drop f m l (both_true _ _ e).1

pub same_true : (l m : List ℕ) → same l m ≡ true → l ≡ m
unfolding same
same_true [] [] e = refl
same_true [] (b ∷ m) e = let z : ◌≡◌ {A = ℕ} 0 1 = cc in absurd (omega arith)
same_true (a ∷ l) [] e = let z : ◌≡◌ {A = ℕ} 0 1 = cc in absurd (omega arith)
same_true (a ∷ l) (b ∷ m) e =
    let t = both_true _ _ e in
    let h = eqb-true a b t.0 in
    let k = same_true l m t.1 in
    cc

pub same_refl : (l : List ℕ) → same l l ≡ true
unfolding same
same_refl [] = refl
same_refl (a ∷ l) = both_of _ _ (eq-eqb a a refl) (same_refl l)

pub same_of : (l m : List ℕ) → l ≡ m → same l m ≡ true
same_of l m e = rw (← e) (same_refl l)

-- zeros are the list of as many zeros
pub zeros-true : (l : List ℕ) → zeros l ≡ true → l ≡ replicate (length l) 0
unfolding zeros
zeros-true [] e = refl
zeros-true (a ∷ l) e =
    let t = both_true _ _ e in
    let h = eqb-true a 0 t.0 in
    let k = zeros-true l t.1 in
    cc

pub zeros_of : (n : ℕ) → zeros (replicate n 0) ≡ true
unfolding zeros both
zeros_of zero = refl
zeros_of (suc n) = zeros_of n

pub zero-at : (n i : ℕ) → ◌≡◌ {A = ℕ} (get_or (replicate n 0) i 0) 0
zero-at zero i = refl
zero-at (suc n) zero = refl
zero-at (suc n) (suc i) = zero-at n i

pub empty-true : {A : Type 0} (l : List A) → is_empty l ≡ true → l ≡ []
unfolding is_empty
empty-true [] e = refl
empty-true (a ∷ l) e = let z : ◌≡◌ {A = ℕ} 0 1 = cc in absurd (omega arith)

-- Optional values.

pub some_inj : {A : Type 0} (a b : A) → some a ≡ some b → a ≡ b
some_inj a b e = cc

pub is_some_true : {A : Type 0} (o : Option A) → is_some o ≡ true → (a : A) × (o ≡ some a)
unfolding is_some
is_some_true none e = let z : ◌≡◌ {A = ℕ} 0 1 = cc in absurd (omega arith)
is_some_true (some a) e = (a, refl)

-- a bind that succeeds: both parts do
pub bind_some : {A B : Type 0} (o : Option A) (f : A → Option B) (b : B) → (o >>= f) ≡ some b → (a : A) × (o ≡ some a) × (f a ≡ some b)
unfolding ◌>>=◌
bind_some none f b e = let z : ◌≡◌ {A = ℕ} 0 1 = cc in absurd (omega arith)
bind_some (some a) f b e = (a, refl, e)

-- and so does another whose parts have what its parts have
pub bind_same : {A B : Type 0} (o o' : Option A) (f f' : A → Option B) (b : B) → ((a : A) → o ≡ some a → o' ≡ some a)
    → ((a : A) → f a ≡ some b → f' a ≡ some b) → (o >>= f) ≡ some b → (o' >>= f') ≡ some b
unfolding ◌>>=◌
bind_same o o' f f' b h k e = let t = bind_some o f b e in rw (h t.0 t.1) (k t.0 t.2)

-- an ensured test: it holds, and what is behind it succeeds
pub ensure-some : {B : Type 0} (t : Bool) (o : Option B) (b : B) → (ensure t >> o) ≡ some b → (t ≡ true) × (o ≡ some b)
unfolding ensure ◌>>◌
ensure-some true o b e = (refl, e)
ensure-some false o b e = let z : ◌≡◌ {A = ℕ} 0 1 = cc in absurd (omega arith)

pub ensure-yes : {B : Type 0} (t : Bool) (o : Option B) → t ≡ true → (ensure t >> o) ≡ o
unfolding ensure ◌>>◌
ensure-yes t o e = rw e

pub ensure-no : {B : Type 0} (t : Bool) (o : Option B) → t ≡ false → (ensure t >> o) ≡ none
unfolding ensure ◌>>◌
ensure-no t o e = rw e

pub each-some : {A B : Type 0} (f : A → Option B) (l : List A) (m : List B) → each f l ≡ some m → length m ≡ length l
unfolding each
each-some f [] m e = ap length (some_inj m [] (sym e))
each-some f (a ∷ l) m e =
    let t = bind_some (f a) _ m e in
    let u = bind_some (each f l) _ m t.2 in
    ap length (some_inj m (t.0 ∷ u.0) (sym u.2)) ∙ ap suc (each-some f l u.0 u.1)

-- each clause of a list that holds
pub clauses-true : (l : List Bool) → clauses l ≡ true → (i : ℕ) → get_or l i true ≡ true
unfolding clauses
clauses-true [] e i = refl
clauses-true (b ∷ l) e zero = (both_true _ _ e).0
clauses-true (b ∷ l) e (suc i) = clauses-true l (both_true _ _ e).1 i
