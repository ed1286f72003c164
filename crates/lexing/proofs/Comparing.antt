-- Names compared, letter by letter. Rests on Names and on specs/Lexing.
use mathlib.Core.Path.{◌≡◌, refl, sym, ◌∙◌, ap}
use mathlib.Core.Bool.{Bool, true, false}
use mathlib.Core.List.{List, [], ◌∷◌}
use Prim.Native.Nat.{ℕ, ◌+◌, ◌<◌, ◌≤◌}
use native.Mathlib.Decide.{dec_lt}
use native.Mathlib.Omega.{arith}
use borrow.Author.Tests.{eq-eqb, ne_eqb}
use Rattle.std.specs.Prelude.{Option, Some, None}
use lib.ListN.{length}
use Rattle.meaning.specs.Basics.{both, same}
use Rattle.text.specs.Words.{is_letter}
use Rattle.lexing.specs.Lexing.{first, name_at}
use Rattle.lexing.proofs.Places.{byte}
use Rattle.lexing.proofs.Names.{run-letter, run-other, run_end}

-- The first letter of a name, where it has one.

abbrev pub letter : List ℕ → ℕ → Option ℕ
letter bs at = first (name_at bs at)

module _ (bs : List ℕ) (at : ℕ) where
  pub letter-behind : length bs ≤ at → None ≡ letter bs at
  letter-behind h = rw (run_end bs at h)

  pub letter-other : at < length bs → is_letter (byte bs at) ≡ false → None ≡ letter bs at
  letter-other h e = rw (run-other bs at h e)

  pub letter-here : at < length bs → is_letter (byte bs at) ≡ true → Some (byte bs at) ≡ letter bs at
  letter-here h e = rw (run-letter bs at h e)

pub none-some : {b : ℕ} → None ≡ Some b → ⊥
none-some e = let z : ◌≡◌ {A = ℕ} 0 1 = cc in omega arith

pub some_same : {a b : ℕ} → Some a ≡ Some b → a ≡ b
some_same e = cc

-- a name with no first letter is empty; any other is its first letter and the name at the next place

pub first-none : (l : List ℕ) → first l ≡ None → l ≡ []
first-none [] e = refl
first-none (b ∷ l) e = absurd (none-some (sym e))

pub letter-some : (bs : List ℕ) (at b : ℕ) → letter bs at ≡ Some b → (at < length bs) × (name_at bs at ≡ b ∷ name_at bs (at + 1))
letter-some bs at b e = found (dec_lt at (length bs)) (is_letter (byte bs at)) refl
  where
    found : Dec (at < length bs) → (l : Bool) → is_letter (byte bs at) ≡ l → (at < length bs) × (name_at bs at ≡ b ∷ name_at bs (at + 1))
    found (no h) l q = absurd (none-some (letter-behind bs at (omega arith) ∙ e))
    found (yes h) false q = absurd (none-some (letter-other bs at h q ∙ e))
    found (yes h) true q = (h, run-letter bs at h q ∙ rw (some_same (letter-here bs at h q ∙ e)))

-- Two names.

-- their first letters, which differ, are the same, or are there in none
differ : (l m : List ℕ) → (first l ≡ first m → ⊥) → same l m ≡ false
unfolding same both
differ [] [] e = absurd (e refl)
differ [] (b ∷ m) e = refl
differ (a ∷ l) [] e = refl
differ (a ∷ l) (b ∷ m) e = rw (ne_eqb a b (λ q. e (ap Some q)))

-- the names agree up to here
pub record Agree (bs : List ℕ) (a b k : ℕ) : Type 0 where
  pub rest : same (name_at bs a) (name_at bs b) ≡ same (name_at bs (a + k)) (name_at bs (b + k))
  pub within : k ≤ length bs

pub agree-begins : (bs : List ℕ) (a b : ℕ) → Agree bs a b 0
agree-begins bs a b = record { rest = rw (num a, num b); within = omega arith }
  where
    num : (n : ℕ) → n + 0 ≡ n
    num n = omega arith

module _ (bs : List ℕ) (a b k : ℕ) (g : Agree bs a b k) where
  pub agree-not : (x y : Option ℕ) → x ≡ letter bs (a + k) → y ≡ letter bs (b + k) → (x ≡ y → ⊥) → false ≡ same (name_at bs a) (name_at bs b)
  agree-not x y e f n = sym (g.rest ∙ differ _ _ (λ q. n (e ∙ q ∙ sym f)))

  pub agree-ends : None ≡ letter bs (a + k) → None ≡ letter bs (b + k) → true ≡ same (name_at bs a) (name_at bs b)
  unfolding same
  agree-ends e f = sym (g.rest ∙ rw (first-none _ (sym e), first-none _ (sym f)))

  pub agree-more : (x y : ℕ) → Some x ≡ letter bs (a + k) → Some y ≡ letter bs (b + k) → x ≡ y → Agree bs a b (k + 1)
  unfolding same both
  agree-more x y e f q =
      let s = letter-some bs (a + k) x (sym e) in
      let t = letter-some bs (b + k) y (sym f) in
      let h = s.0 in
      let u : a + (k + 1) ≡ a + k + 1 = omega arith in
      let v : b + (k + 1) ≡ b + k + 1 = omega arith in
      record { rest = g.rest ∙ rw (s.1, t.1, u, v, eq-eqb x y q); within = omega arith }

  -- letters all over the text
  pub agree-all : k ≡ length bs → true ≡ same (name_at bs a) (name_at bs b)
  agree-all e = agree-ends (letter-behind bs (a + k) (omega arith)) (letter-behind bs (b + k) (omega arith))
