-- The parts of a line, as their writers put them. Rests on specs/Lines, specs/Putting, Rows and writing's Text.
use mathlib.Core.Path.{◌≡◌, refl, sym}
use mathlib.Core.List.{List, [], ◌∷◌, ◌++◌}
use Prim.Native.Nat.{ℕ, zero, suc, ◌+◌, ◌-◌, ◌^◌, ◌<◌, ◌≤◌}
use native.Mathlib.Numerals.{add-one}
use native.Mathlib.Omega.{arith}
use lib.ListN.{length, get_or, take, drop, drop_of_length-le, get_or-eq_default}
use lib.Seq.{drop-cons, length-take-le}
use Rattle.meaning.specs.Numbers.{half, whole}
use Rattle.meaning.specs.Tags.{dashed_mark}
use Rattle.meaning.specs.Laws.Tests.{choose_lt, choose_le}
use Rattle.writing.specs.Words.{letters, decimal, signed, minus, most_digits}
use Rattle.writing.specs.Laws.Digits.{decimal-length}
use Rattle.writing.specs.Text.{Adds}
use Rattle.text.specs.Grammar.{marks}
use Rattle.exporting.specs.Lines.{atoms_behind, atoms_text, mark_text, root_text}
use Rattle.exporting.specs.Putting.{Puts, digits_size, integer_size, mark_size, root_size}
use Rattle.exporting.proofs.Rows.{nothing, within, then}

-- Numbers.

pub digits-short : (n : ℕ) → n < 10 ^ most_digits → length (decimal n) ≤ digits_size
digits-short n h = decimal-length most_digits n (omega arith) h

-- digits that were put at the front of a buffer
module _ {most : ℕ} {t before after : List ℕ} {end : ℕ} (a : Adds most t before 0 after end) (h : most ≤ length after) where
  pub digits-within : end ≤ length after
  digits-within = omega (arith, a.short)

  pub digits-count : end ≡ length (take end after)
  digits-count = sym (length-take-le end after digits-within)

pub digits-front : {most : ℕ} {t before after : List ℕ} {end : ℕ} → Adds most t before 0 after end → take end after ≡ t
digits-front a = a.written

pub integer-plain : (w : ℕ) {before after : List ℕ} {at end : ℕ} → w < half → Puts digits_size (decimal w) before at after end
    → Puts integer_size (signed w) before at after end
unfolding signed
integer-plain w h a = rw (choose_lt w half (decimal w) (minus ∷ decimal (whole - w)) h) (within digits_size integer_size (omega arith) a)

module _ {before between after : List ℕ} {at p end : ℕ} (w : ℕ) where
  pub integer-minus : half ≤ w → Puts 1 (minus ∷ []) before at between p → Puts digits_size (decimal (whole - w)) between p after end
      → Puts integer_size (signed w) before at after end
  unfolding signed
  integer-minus h a b = rw (choose_le w half (decimal w) (minus ∷ decimal (whole - w)) h) (then a b)

-- Roots and marks.

pub root_none : (root : ℕ) (before : List ℕ) (at : ℕ) → root ≡ 0 → Puts root_size (root_text root) before at before at
unfolding root_text
root_none root before at e = rw e (nothing root_size before at)

pub mark-none : (mark : ℕ) (before : List ℕ) (at : ℕ) → mark ≡ 0 → Puts mark_size (mark_text mark) before at before at
unfolding mark_text
mark-none mark before at e = rw e (nothing mark_size before at)

module _ {before after : List ℕ} {at end : ℕ} where
  pub root-put : (root : ℕ) → (root ≡ 0 → ⊥) → Puts root_size (letters "(R)") before at after end
      → Puts root_size (root_text root) before at after end
  unfolding root_text
  root-put zero h a = absurd (h refl)
  root-put (suc r) h a = a

  pub mark-put : (mark k : ℕ) (t : List ℕ) → mark ≡ k → mark_text k ≡ t → length t ≤ mark_size → Puts (length t) t before at after end
      → Puts mark_size (mark_text mark) before at after end
  mark-put mark k t e q h a = rw (e, q) (within (length t) mark_size h a)

-- a mark without a name
pub mark-other : (mark : ℕ) → dashed_mark < mark → mark_text mark ≡ letters " # "
unfolding mark_text marks letters
mark-other zero h = absurd (omega arith)
mark-other (suc m) h = rw (get_or-eq_default marks [] {n = m} (omega arith))

-- The atoms of a label.

pub atoms-none : (l : List ℕ) → length l ≡ 0 → atoms_text l ≡ letters "empty"
unfolding atoms_text
atoms-none [] e = refl
atoms-none (a ∷ l) e = absurd (omega arith)

pub atoms-first : (l : List ℕ) (a : ℕ) → 0 < length l → a ≡ get_or l 0 0 → atoms_text l ≡ signed a ++ atoms_behind (drop 1 l)
unfolding atoms_text
atoms-first [] a h e = absurd (omega arith)
atoms-first (b ∷ l) a h e = rw e

pub atoms-next : (l : List ℕ) (j a : ℕ) → j < length l → a ≡ get_or l j 0
    → atoms_behind (drop j l) ≡ letters ":" ++ signed a ++ atoms_behind (drop (j + 1) l)
unfolding atoms_behind
atoms-next l j a h e = rw (e, add-one j, drop-cons l j 0 h)

pub atoms-end : (l : List ℕ) (j : ℕ) → length l ≤ j → atoms_behind (drop j l) ≡ []
unfolding atoms_behind
atoms-end l j h = rw (drop_of_length-le l {i = j} h)
