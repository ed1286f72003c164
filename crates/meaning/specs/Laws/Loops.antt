-- Laws of loops that ask one question of each slot, item or test, a step at a time; and of clauses, one of which fails.
-- Rests on Basics.
use Prim.Native.Nat.{ℕ, zero, suc, ◌+◌, ◌<◌, ◌≤◌}
use Rattle.std.specs.Prelude.{◌≡◌, refl, Bool, true, false, List, [], ◌∷◌, ltb, get_or, take, drop}
use Rattle.std.proofs.Common.{sym, ◌∙◌, ap, arith, drop_of_length-le, get_or-take, take_all}
use Rattle.std.proofs.Math.Numerals.{add-one}
use borrow.Author.Tests.{eq-eqb, ne_eqb}
use Rattle.std.proofs.Math.ListN.{length}
use Rattle.std.proofs.Math.Seq.{drop-cons, length-take-le, take-suc}
use Rattle.meaning.specs.Basics.{choose, both, either, clauses, exists, all, count, every, absent}
use Rattle.meaning.specs.Laws.Tests.{choose_lt, choose_le, exists-of, all-no, every_append}

-- One of a part of an array.

module _ (l : List ℕ) (to j c : ℕ) (fits : to ≤ length l) where
  front : j < to → drop j (take to l) ≡ get_or l j 0 ∷ drop (j + 1) (take to l)
  front h =
      let s : length (take to l) ≡ to = length-take-le to l fits in
      drop-cons (take to l) j 0 (omega arith) ∙ rw (add-one, get_or-take to l j 0 h)

  pub absent-here : j < to → get_or l j 0 ≡ c → absent c (drop j (take to l)) ≡ false
  unfolding absent both
  absent-here h e = rw (front h, eq-eqb _ _ e)

  pub absent-next : j < to → (get_or l j 0 ≡ c → ⊥) → absent c (drop j (take to l)) ≡ absent c (drop (j + 1) (take to l))
  unfolding absent both
  absent-next h e = rw (front h, ne_eqb _ _ e)

  pub absent-end : to ≤ j → absent c (drop j (take to l)) ≡ true
  unfolding absent
  absent-end h =
      let s : length (take to l) ≡ to = length-take-le to l fits in
      rw (drop_of_length-le (take to l) {i = j} (omega arith))

-- Numbers from 0 on, with the test's outcome at one more in hand.

module _ (f : ℕ → Bool) (x : ℕ) {r : Bool} (e : r ≡ f x) where
  pub count_yes : r ≡ true → (d : ℕ) → d ≡ count f x → d + 1 ≡ count f (x + 1)
  unfolding count choose
  count_yes h d q = rw (add-one x, add-one d, ← e, h) (ap suc q)

  pub count_no : r ≡ false → (d : ℕ) → d ≡ count f x → d ≡ count f (x + 1)
  unfolding count choose
  count_no h d q = rw (add-one x, ← e, h) q

  pub exists-yes : r ≡ true → (n : ℕ) → x < n → true ≡ exists f n
  exists-yes h n i = sym (exists-of f n x i (sym e ∙ h))

  pub exists-next : r ≡ false → exists f x ≡ false → exists f (x + 1) ≡ false
  unfolding exists either
  exists-next h q = rw (add-one x, ← e, h) q

  pub all-fails : r ≡ false → (n : ℕ) → x < n → false ≡ all f n
  all-fails h n i = sym (all-no f n x i (sym e ∙ h))

  pub all-next : r ≡ true → all f x ≡ true → all f (x + 1) ≡ true
  unfolding all both
  all-next h q = rw (add-one x, ← e, h) q

module _ (f : ℕ → Bool) (x n : ℕ) (e : x ≡ n) where
  pub count-end : (d : ℕ) → d ≡ count f x → d ≡ count f n
  count-end d q = rw (← e) q

  pub exists-end : exists f x ≡ false → false ≡ exists f n
  exists-end q = rw (← e) (sym q)

  pub all_end : all f x ≡ true → true ≡ all f n
  all_end q = rw (← e) (sym q)

-- Elements of a list from the first on.

module _ {A : Type 0} (f : A → Bool) (l : List A) (t : ℕ) (d : A) where
  pub every-next : t < length l → every f (take t l) ≡ true → f (get_or l t d) ≡ true → every f (take (t + 1) l) ≡ true
  unfolding every both
  every-next h q e = rw (add-one t, take-suc l t d h, every_append f (take t l) (get_or l t d ∷ []), q, e)

pub every-end : {A : Type 0} (f : A → Bool) (l : List A) (t : ℕ) → length l ≤ t → every f (take t l) ≡ true → true ≡ every f l
every-end f l t h q = sym (rw (take_all t l h) at q)

pub every-fails : {A : Type 0} (f : A → Bool) (l : List A) (t : ℕ) (d : A) → t < length l → f (get_or l t d) ≡ false → false ≡ every f l
unfolding every both
every-fails f [] t d h e = absurd (omega arith)
every-fails f (a ∷ l) zero d h e = rw e
every-fails f (a ∷ l) (suc t) d h e = go (f a) (every-fails f l t d (omega arith) e)
  where
    go : (b : Bool) → false ≡ every f l → false ≡ both b (every f l)
    go true q = q
    go false q = refl

-- What is left of a list, from a place on.

module _ {A : Type 0} (f : A → Bool) (l : List A) (i : ℕ) (d : A) where
  pub every-onward : i < length l → f (get_or l i d) ≡ true → every f (drop i l) ≡ every f (drop (i + 1) l)
  unfolding every both
  every-onward h e = rw (add-one i, drop-cons l i d h, e)

  pub every-stops : i < length l → f (get_or l i d) ≡ false → every f (drop i l) ≡ false
  unfolding every both
  every-stops h e = rw (drop-cons l i d h, e)

  pub every-done : length l ≤ i → every f (drop i l) ≡ true
  unfolding every
  every-done h = rw (drop_of_length-le l h)

-- Clauses: one that does not hold, wherever it stands.

pub clauses-fail : (l : List Bool) (i : ℕ) → i < length l → get_or l i true ≡ false → false ≡ clauses l
unfolding clauses both
clauses-fail [] i h e = absurd (omega arith)
clauses-fail (b ∷ l) zero h e = rw e
clauses-fail (b ∷ l) (suc i) h e = go b (clauses-fail l i (omega arith) e)
  where
    go : (b : Bool) → false ≡ clauses l → false ≡ both b (clauses l)
    go true q = q
    go false q = refl

-- By whether the first of two numbers is below the second.

module _ {A : Type 0} (P : A → Type 0) (j n : ℕ) (a b : A) where
  pub first_of : j < n → P (choose (ltb j n) a b) → P a
  first_of h p = rw (choose_lt j n a b h) at p

  pub second-of : n ≤ j → P (choose (ltb j n) a b) → P b
  second-of h p = rw (choose_le j n a b h) at p

  pub of-first : j < n → P a → P (choose (ltb j n) a b)
  of-first h p = rw (choose_lt j n a b h) p

  pub of-second : n ≤ j → P b → P (choose (ltb j n) a b)
  of-second h p = rw (choose_le j n a b h) p
