-- What iterators over a range of numbers answer, in the words of the definitions: whether each number passes a test, whether
-- one does, and how many do; and what a chain of `any`, `all` or `filter` and `count` returns, whose closure computes the test.
-- Rests on the meaning's Basics.
use Rattle.std.specs.Bool.{MatchBool}
use Rattle.std.specs.Fn.{Called, CalledAt}
use Rattle.std.specs.Iterator.Adapters.{filter_steps}
use Rattle.std.specs.Iterator.{YieldsThen, Drains}
use Rattle.std.specs.List.{AllWithin, HoldsAt, list_all, list_any, count_by, range_with_len, FoldsTo}
use Rattle.std.specs.Option.{MatchOption}
use Rattle.std.specs.Prelude.{◌≡◌, refl, Bool, true, false, ◌&&◌, ◌||◌, cond, List, [], ◌∷◌, ◌++◌, filter, ℕ, zero, suc, ◌+◌, ◌<◌, length, get_or, Option, ◌-◌, ◌≤◌, not, eqb}
use Rattle.std.specs.declared.iter.Filter.{Filter}
use Rattle.std.specs.declared.ops.Range.{Range}
use Rattle.std.proofs.Common.{subst, sym, ◌∙◌, ap, arith, leb, le-leb, length-append}
use Rattle.std.proofs.iter.Yields.{nat_range_steps}
use Rattle.std.proofs.lemmas.Bool.{lt-leb}
use Rattle.std.proofs.lemmas.Iterator.Consumers.{count_from_yields_List, YieldsList-from_filter}
use Rattle.std.proofs.lemmas.Iterator.Search.{any_from_yields_List, all_from_yields_List}
use Rattle.std.proofs.lemmas.Iterator.{YieldsList-from_range}
use Rattle.std.proofs.lemmas.List.Elements.{filter-append}
use Rattle.std.proofs.lemmas.List.Folds.{list_all-map, list_any-append, list_all-append}
use Rattle.std.proofs.lemmas.List.FromFn.{length-range_with_len, get_or-range_with_len, fill_by_all}
use Rattle.std.proofs.lemmas.List.Sums.{length-filter, sum_by-append}
use denote.Param.Members.{Mut}
use denote.Ref.{Bor}
use native.Mathlib.Decide.{dec_le}
use Rattle.meaning.specs.Basics.{both, either, choose, exists, count, every, all, absent}
use Rattle.meaning.specs.Laws.Tests.{both-no, exists-no}

module _ (Yes No : ℕ → Type 0) (n : ℕ) where
  in_range : (P : ℕ → Type 0) (k : ℕ) → k < n → P (get_or (range_with_len 0 n) k 0) → P k
  in_range P k h = subst P (get_or-range_with_len 0 n k 0 h ∙ omega arith)

  -- `all`: each number passes, or one does not
  pub all-below : (r : Bool)
      → MatchBool r (AllWithin Yes (range_with_len 0 n) 0 (length (range_with_len 0 n))) ((k : ℕ) × (k < length (range_with_len 0 n)) × HoldsAt No (range_with_len 0 n) k)
      → MatchBool r ((k : ℕ) → k < n → Yes k) ((k : ℕ) × (k < n) × No k)
  all-below true h = λ k j. in_range Yes k j (h k 0 (omega arith) (rw (length-range_with_len 0 n) j))
  all-below false h =
      let j : h.0 < n = rw (← (length-range_with_len 0 n)) h.1 in
      (h.0, j, in_range No h.0 j (h.2 0))

-- `all` over the places of a list
module _ {A : Type 0} (f : A → Bool) where
  every-listed : (l : List A) → list_all f l ≡ every f l
  unfolding every both
  every-listed [] = refl
  every-listed (a ∷ l) = at (f a) (every-listed l)
    where
      at : (b : Bool) → list_all f l ≡ every f l → (b && list_all f l) ≡ both b (every f l)
      at true e = e
      at false e = refl

  pub every-below : (g : ℕ → A) (l : List A) (n : ℕ) (d : A) → length l ≡ n → ((k : ℕ) → k < n → get_or l k d ≡ g k)
      → list_all (λ i. f (g i)) (range_with_len 0 n) ≡ every f l
  every-below g l n d e h =
      sym (list_all-map f g (range_with_len 0 n)) ∙ ap (list_all f) (sym (fill_by_all g l n d e h)) ∙ every-listed l

pub absent_all : (c : ℕ) (l : List ℕ) → absent c l ≡ list_all (λ y. not (eqb y c)) l
unfolding absent both
absent_all c [] = refl
absent_all c (a ∷ l) = go (eqb a c) (absent_all c l)
  where
    go : (b : Bool) → absent c l ≡ list_all (λ y. not (eqb y c)) l → both (not b) (absent c l) ≡ (not b && list_all (λ y. not (eqb y c)) l)
    go true e = refl
    go false e = e

range-more : (a n b : ℕ) → a + n ≡ b → range_with_len a (suc n) ≡ range_with_len a n ++ b ∷ []
range-more a zero b e = ap (λ x. x ∷ []) (omega arith)
range-more a (suc n) b e = ap (λ l. a ∷ l) (range-more (a + 1) n b (omega arith))

either-turned : (a b : Bool) → (b || (a || false)) ≡ either a b
unfolding either
either-turned true true = refl
either-turned true false = refl
either-turned false true = refl
either-turned false false = refl

pub exists-below : (f : ℕ → Bool) (n : ℕ) → list_any f (range_with_len 0 n) ≡ exists f n
unfolding exists either
exists-below f zero = refl
exists-below f (suc n) = ap (list_any f) (range-more 0 n n (omega arith)) ∙ list_any-append f (range_with_len 0 n) (n ∷ []) ∙ rw (exists-below f n) (either-turned (f n) (exists f n))

pub each-below : (f : ℕ → Bool) (n : ℕ) → list_all f (range_with_len 0 n) ≡ all f n
unfolding all both
each-below f zero = refl
each-below f (suc n) = ap (list_all f) (range-more 0 n n (omega arith)) ∙ list_all-append f (range_with_len 0 n) (n ∷ []) ∙ rw (each-below f n) (go (f n) (all f n))
  where
    go : (a b : Bool) → (b && (a && true)) ≡ both a b
    go true true = refl
    go true false = refl
    go false true = refl
    go false false = refl

pub count-below : (f : ℕ → Bool) (n : ℕ) → length (filter f (range_with_len 0 n)) ≡ count f n
unfolding count choose
count-below f zero = refl
count-below f (suc n) =
    ap (λ l. length (filter f l)) (range-more 0 n n (omega arith)) ∙ ap length (filter-append f (range_with_len 0 n) (n ∷ [])) ∙ length-append (filter f (range_with_len 0 n)) (filter f (n ∷ []))
    ∙ rw (count-below f n) (go (f n) (count f n))
  where
    go : (b : Bool) (d : ℕ) → d + length (cond b (n ∷ []) []) ≡ choose b (suc d) d
    go true d = omega arith
    go false d = omega arith

onward-at : (f : ℕ → Bool) (a m b : ℕ) → a + m ≡ b → list_any f (range_with_len a m) ≡ exists (λ j. both (leb a j) (f j)) b
unfolding exists either both
onward-at f a zero b e = sym (exists-no _ b (λ j h. both-no _ _ (lt-leb a j (omega arith))))
onward-at f a (suc m) zero e = absurd (omega arith)
onward-at f a (suc m) (suc c) e =
    ap (list_any f) (range-more a m c (omega arith)) ∙ list_any-append f (range_with_len a m) (c ∷ []) ∙ rw (onward-at f a m c (omega arith), le-leb a c (omega arith)) (either-turned (f c) _)

-- from a on
any-onward : (f : ℕ → Bool) (a n : ℕ) → list_any f (range_with_len a (n - a)) ≡ exists (λ j. both (leb a j) (f j)) n
unfolding exists
any-onward f a n = go (dec_le a n)
  where
    go : Dec (a ≤ n) → list_any f (range_with_len a (n - a)) ≡ exists (λ j. both (leb a j) (f j)) n
    go (yes h) = onward-at f a (n - a) n (omega arith)
    go (no h) =
        let z : n - a ≡ 0 = omega arith in
        rw z (sym (exists-no _ n (λ j k. both-no _ _ (lt-leb a j (omega arith)))))

-- What `any`, `all` and `count` of a range return, where the closure computes the test.

module _ {F : Type 0} {g : Mut F (ℕ × Unit {0}) Bool} {m : ℕ} (f : ℕ → Bool) (n : ℕ) (u : Range ℕ) (p : F) (r : Bool) (e : m ≡ n)
    (k : (x : ℕ) (b : Bool) (q : F) → Called g p (x, tt) b q → (q ≡ p) × (b ≡ f x)) where
  abbrev below : Range ℕ
  below = record { start = 0; end = m }

  pub any-is : (xs : List ℕ) × (o : Option ℕ) × (j : F) × YieldsThen nat_range_steps below xs o u × FoldsTo (λ p x q. Called g p (x, tt) false q) p xs j
      × MatchOption o (r ≡ false) (λ x. (r ≡ true) × ((h : F) × Called g j (x, tt) true h)) → r ≡ exists f n
  any-is h = any_from_yields_List f u p r h (YieldsList-from_range 0 m n refl (omega arith)) k ∙ exists-below f n

  pub all-is : (xs : List ℕ) × (o : Option ℕ) × (j : F) × YieldsThen nat_range_steps below xs o u × FoldsTo (λ p x q. Called g p (x, tt) true q) p xs j
      × MatchOption o (r ≡ true) (λ x. (r ≡ false) × ((h : F) × Called g j (x, tt) false h)) → r ≡ all f n
  all-is h = all_from_yields_List f u p r h (YieldsList-from_range 0 m n refl (omega arith)) k ∙ each-below f n

module _ {F : Type 0} {g : Mut F (ℕ × Unit {0}) Bool} {a m : ℕ} (f : ℕ → Bool) (n : ℕ) (u : Range ℕ) (p : F) (r : Bool) (e : m ≡ n)
    (k : (x : ℕ) (b : Bool) (q : F) → Called g p (x, tt) b q → (q ≡ p) × (b ≡ f x)) where
  pub any-onward-is : (xs : List ℕ) × (o : Option ℕ) × (j : F) × YieldsThen nat_range_steps (record { start = a; end = m }) xs o u × FoldsTo (λ p x q. Called g p (x, tt) false q) p xs j
      × MatchOption o (r ≡ false) (λ x. (r ≡ true) × ((h : F) × Called g j (x, tt) true h)) → r ≡ exists (λ j. both (leb a j) (f j)) n
  any-onward-is h = any_from_yields_List f u p r h (YieldsList-from_range a m (n - a) refl (omega arith)) k ∙ any-onward f a n

module _ {F : Type 0} {g : Mut F (Bor ℕ × Unit {0}) Bool} {s : Filter (Range ℕ) F} {m : ℕ} (f : ℕ → Bool) (n : ℕ) (p : F) (r : ℕ)
    (c : s.iter ≡ record { start = 0; end = m }) (l : s.p ≡ p) (e : m ≡ n) (k : (x : ℕ) (b : Bool) (q : F) → CalledAt g p x b q → (q ≡ p) × (b ≡ f x)) where
  pub count-is : (xs : List ℕ) × Drains (filter_steps nat_range_steps g) s xs × (r ≡ length xs) → r ≡ count f n
  count-is h = count_from_yields_List s r h (YieldsList-from_filter g f (YieldsList-from_range 0 m n c (omega arith)) l k) ∙ count-below f n
