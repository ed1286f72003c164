-- A statement of each element of a list, as a type: what `every` is as a test. Rests on Basics.
use Rattle.std.specs.Prelude.{◌≡◌, Bool, true, ℕ, zero, suc, ◌<◌, length, get_or}
use Rattle.std.proofs.Math.Path.{refl}
use Rattle.std.proofs.Common.{sym, arith}
use Rattle.std.proofs.Math.Option.{Option, some}
use mathlib.Core.List.{List, [], ◌∷◌, ◌++◌, map}
use Rattle.meaning.specs.Basics.{every, concat, each}
use Rattle.meaning.specs.Laws.Tests.{both_true, both_of, some_inj, bind_some}

abbrev pub Every : {A : Type 0} → (A → Type 0) → List A → Type 0
Every P [] = Unit {0}
Every P (a ∷ l) = P a × Every P l

module _ {A : Type 0} where
  -- from the test and to it
  pub Every-true : (f : A → Bool) (P : A → Type 0) → ((a : A) → f a ≡ true → P a) → (l : List A) → every f l ≡ true → Every P l
  unfolding every
  Every-true f P i [] e = tt
  Every-true f P i (a ∷ l) e = let t = both_true _ _ e in (i a t.0, Every-true f P i l t.1)

  pub Every-of : (f : A → Bool) (l : List A) → Every (λ a. f a ≡ true) l → every f l ≡ true
  unfolding every
  Every-of f [] e = refl
  Every-of f (a ∷ l) e = both_of _ _ e.0 (Every-of f l e.1)

  module _ (P : A → Type 0) where
    pub Every-at : (d : A) → P d → (l : List A) → Every P l → (i : ℕ) → P (get_or l i d)
    Every-at d p [] e i = p
    Every-at d p (a ∷ l) e zero = e.0
    Every-at d p (a ∷ l) e (suc i) = Every-at d p l e.1 i

    pub Every-in : (l : List A) → Every P l → (i : ℕ) → i < length l → (d : A) → P (get_or l i d)
    Every-in [] e i h d = absurd (omega arith)
    Every-in (a ∷ l) e zero h d = e.0
    Every-in (a ∷ l) e (suc i) h d = Every-in l e.1 i (omega arith) d

    pub Every-parts : (l m : List A) → Every P (l ++ m) → Every P l × Every P m
    Every-parts [] m e = (tt, e)
    Every-parts (a ∷ l) m e = let t = Every-parts l m e.1 in ((e.0, t.0), t.1)

    pub Every-concat : (ls : List (List A)) → Every P (concat ls) → Every (λ l. Every P l) ls
    unfolding concat
    Every-concat [] e = tt
    Every-concat (l ∷ ls) e = let t = Every-parts l (concat ls) e in (t.0, Every-concat ls t.1)

    pub Every-map : {B : Type 0} (f : B → A) (l : List B) → Every P (map f l) → Every (λ b. P (f b)) l
    Every-map f [] e = tt
    Every-map f (b ∷ l) e = (e.0, Every-map f l e.1)

  -- what holds of every element, or follows of each
  pub Every-all : (P : A → Type 0) → ((a : A) → P a) → (l : List A) → Every P l
  Every-all P f [] = tt
  Every-all P f (a ∷ l) = (f a, Every-all P f l)

  pub Every-then : (P Q : A → Type 0) → ((a : A) → P a → Q a) → (l : List A) → Every P l → Every Q l
  Every-then P Q f [] p = tt
  Every-then P Q f (a ∷ l) p = (f a p.0, Every-then P Q f l p.1)

  pub Every-with : (P Q R : A → Type 0) → ((a : A) → P a → Q a → R a) → (l : List A) → Every P l → Every Q l → Every R l
  Every-with P Q R f [] p q = tt
  Every-with P Q R f (a ∷ l) p q = (f a p.0 q.0, Every-with P Q R f l p.1 q.1)

-- what follows of each value
pub each-every : {A B : Type 0} (f : A → Option B) (P : A → Type 0) (Q : B → Type 0) → ((a : A) (b : B) → P a → f a ≡ some b → Q b)
    → (l : List A) (m : List B) → Every P l → each f l ≡ some m → Every Q m
unfolding each
each-every f P Q i [] m h e = rw (some_inj m [] (sym e)) tt
each-every f P Q i (a ∷ l) m h e =
    let t = bind_some (f a) _ m e in
    let u = bind_some (each f l) _ m t.2 in
    rw (some_inj m (t.0 ∷ u.0) (sym u.2)) (i a t.0 h.0 t.1, each-every f P Q i l u.0 h.1 u.1)
