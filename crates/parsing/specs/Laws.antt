-- Readers one after the other, one of two, and optional parts: each law takes what was read from one place to the next and gives
-- what was read, or broke, in all. Rests on Reading and on the text's Grammar.
use Rattle.std.specs.Prelude.{◌≡◌, Bool, ℕ, drop}
use Rattle.std.proofs.Math.Path.{refl, ap}
use Rattle.std.proofs.Common.{sym, ◌∙◌, arith}
use Rattle.std.proofs.Math.Bool.{true, false}
use mathlib.Core.List.{List}
use Rattle.meaning.specs.Basics.{choose}
use Rattle.text.specs.Words.{Word}
use Rattle.text.specs.Grammar.{Read, Parsed, got, broke, gives, ◌>>=◌, begins, expect, optional}
use Rattle.parsing.specs.Reading.{ahead, Comes, Reads, Breaks}
use Rattle.parsing.specs.declared.BrokenAt.{BrokenAt}

-- what was read is no break
pub got-broke : {A : Type 0} {r : Read A} {ws : List Word} → got r ≡ broke ws → ⊥
got-broke e = let z : ◌≡◌ {A = ℕ} 0 1 = cc in omega arith

module _ (bs : List ℕ) where
  -- One after the other.

  -- nothing is read, and a value is given
  pub done : {A : Type 0} (c : ℕ) (a : A) → Reads bs c (gives a) c a
  done c a = record { read = refl; onward = omega arith }

  -- a reader, and then what follows it
  pub then : {A B : Type 0} {c r q : ℕ} {item : List Word → Parsed A} (f : Read A → Parsed B) {a : A} {o : Parsed B} → Reads bs c item r a
      → Comes bs r (λ ws. f (record { value = a; rest = ws })) o q → Comes bs c (λ ws. item ws >>= f) o q
  unfolding ◌>>=◌
  then {r = r} f x y = record { read = ap (λ o. o >>= f) x.read ∙ y.read; onward = omega (arith, x.onward, y.onward) }

  -- nothing follows a reader that breaks
  pub breaks : {A B : Type 0} {c : ℕ} {b : BrokenAt} {item : List Word → Parsed A} (f : Read A → Parsed B) → Breaks bs c item b
      → Breaks bs c (λ ws. item ws >>= f) b
  unfolding ◌>>=◌
  breaks f x = record { read = ap (λ o. o >>= f) x.read; onward = x.onward }

  -- An expected word.

  pub expect-got : {c : ℕ} (w : Word) {r : ℕ} → Reads bs c (expect w) r tt → (begins w (ahead bs c) ≡ true) × (drop 1 (ahead bs c) ≡ ahead bs r)
  unfolding choose expect
  expect-got {c} w {r} x = at (begins w (ahead bs c)) refl x.read
    where
      rest_of : Parsed (Unit {0}) → List Word
      rest_of (got r) = r.rest
      rest_of (broke ws) = ws

      at : (b : Bool) → begins w (ahead bs c) ≡ b
          → choose b (gives {A = Unit {0}} tt (drop 1 (ahead bs c))) (broke (ahead bs c)) ≡ gives {A = Unit {0}} tt (ahead bs r)
          → (begins w (ahead bs c) ≡ true) × (drop 1 (ahead bs c) ≡ ahead bs r)
      at true q e = (q, ap rest_of e)
      at false q e = absurd (got-broke (sym e))

  pub expect-broke : {c : ℕ} (w : Word) {b : BrokenAt} → Breaks bs c (expect w) b → begins w (ahead bs c) ≡ false
  unfolding choose expect
  expect-broke {c} w {b} x = at (begins w (ahead bs c)) x.read
    where
      at : (k : Bool) → choose k (gives {A = Unit {0}} tt (drop 1 (ahead bs c))) (broke (ahead bs c)) ≡ broke (ahead bs b.place) → k ≡ false
      at true e = absurd (got-broke e)
      at false e = refl

  -- One of two readers, by whether the words begin with a word.

  pub begins-yes : {A : Type 0} {c s q : ℕ} (w : Word) (item other : List Word → Parsed A) {o : Parsed A} → Reads bs c (expect w) s tt
      → Comes bs s item o q → Comes bs c (λ ws. choose (begins w ws) (item (drop 1 ws)) (other ws)) o q
  unfolding choose
  begins-yes w item other x y =
      let t = expect-got w x in
      record { read = rw (t.0, t.1) y.read; onward = omega (arith, x.onward, y.onward) }

  pub begins-no : {A : Type 0} {c q : ℕ} {b : BrokenAt} (w : Word) (item other : List Word → Parsed A) {o : Parsed A} → Breaks bs c (expect w) b
      → Comes bs c other o q → Comes bs c (λ ws. choose (begins w ws) (item (drop 1 ws)) (other ws)) o q
  unfolding choose
  begins-no w item other x y = record { read = rw (expect-broke w x) y.read; onward = y.onward }

  -- An optional part: its first word is there, or not.

  pub optional-yes : {A : Type 0} {c s q : ℕ} (w : Word) (item : List Word → Parsed A) (absent : A) {o : Parsed A} → Reads bs c (expect w) s tt
      → Comes bs s item o q → Comes bs c (optional w item absent) o q
  unfolding optional
  optional-yes w item absent x y = begins-yes w item (gives absent) x y

  pub optional-no : {A : Type 0} {c : ℕ} {b : BrokenAt} (w : Word) (item : List Word → Parsed A) (absent : A) → Breaks bs c (expect w) b
      → Reads bs c (optional w item absent) c absent
  unfolding optional
  optional-no {c = c} w item absent x = begins-no w item (gives absent) x (done c absent)
