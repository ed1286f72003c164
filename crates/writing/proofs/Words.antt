-- The words of a line, as their writers put them. Rests on specs/Words, specs/Lines and Laws/Rows.
use mathlib.Core.Path.{◌≡◌}
use mathlib.Core.List.{List, [], ◌∷◌, ◌++◌, map}
use Prim.Native.Nat.{ℕ, ◌+◌, ◌-◌, ◌<◌, ◌≤◌}
use native.Mathlib.Numerals.{add-one}
use native.Mathlib.Omega.{arith}
use lib.ListN.{length, get_or, drop, drop_of_length-le, get_or-eq_default}
use lib.Seq.{drop-cons}
use Rattle.meaning.specs.Numbers.{half, whole}
use Rattle.meaning.specs.Tags.{any_mark}
use Rattle.meaning.specs.Laws.Tests.{choose_lt, choose_le, choose_eq, choose_ne}
use Rattle.writing.specs.Words.{letters, line_feed, space, minus, decimal, signed, mark_name, root_name, word_digits, atom_size, mark_size, root_size}
use Rattle.writing.specs.Lines.{onward}
use Rattle.writing.specs.Text.{Adds}
use Rattle.writing.specs.Laws.Digits.{decimal-length}
use Rattle.writing.specs.Laws.Rows.{within, then}

-- Names.

module _ {before after : List ℕ} {at end : ℕ} where
  pub mark-said : (mark k : ℕ) (w : List ℕ) → mark ≡ k → mark_name k ≡ w → length (space ∷ w) ≤ mark_size
      → Adds (length (space ∷ w)) (space ∷ w) before at after end → Adds mark_size (space ∷ mark_name mark) before at after end
  mark-said mark k w e q h a = rw (e, q) (within (length (space ∷ w)) mark_size h a)

  pub root-plain : (root : ℕ) → root ≡ 0 → Adds root_size (space ∷ letters "plain") before at after end
      → Adds root_size (space ∷ root_name root) before at after end
  unfolding root_name
  root-plain root e a = rw (choose_eq root 0 (letters "plain") (letters "root") e) a

  pub root-root : (root : ℕ) → (root ≡ 0 → ⊥) → Adds 5 (space ∷ letters "root") before at after end
      → Adds root_size (space ∷ root_name root) before at after end
  unfolding root_name
  root-root root e a = rw (choose_ne root 0 (letters "plain") (letters "root") e) (within 5 root_size (omega arith) a)

pub mark-none : (mark : ℕ) → any_mark ≤ mark → mark_name mark ≡ []
unfolding mark_name
mark-none mark h =
    get_or-eq_default (letters "none" ∷ letters "red" ∷ letters "green" ∷ letters "blue" ∷ letters "grey" ∷ letters "dashed" ∷ []) [] h

-- Atoms.

module _ {before between after : List ℕ} {at p end : ℕ} (w : ℕ) where
  pub atom-plain : w < half → Adds 1 (space ∷ []) before at between p → Adds (length (decimal w)) (decimal w) between p after end
      → Adds atom_size (space ∷ signed w) before at after end
  unfolding signed
  atom-plain h a b =
      rw (choose_lt w half (decimal w) (minus ∷ decimal (whole - w)) h)
      (within (1 + length (decimal w)) atom_size (omega (arith, decimal-length word_digits w (omega arith) (omega arith))) (then a b))

  pub atom-minus : half ≤ w → Adds 2 (space ∷ minus ∷ []) before at between p
      → Adds (length (decimal (whole - w))) (decimal (whole - w)) between p after end → Adds atom_size (space ∷ signed w) before at after end
  unfolding signed
  atom-minus h a b =
      rw (choose_le w half (decimal w) (minus ∷ decimal (whole - w)) h)
      (within (2 + length (decimal (whole - w))) atom_size (omega (arith, decimal-length word_digits (whole - w) (omega arith) (omega arith))) (then a b))

-- The atoms of a label.

pub atoms-next : (l : List ℕ) (j : ℕ) → j < length l
    → onward (map signed (drop j l)) ≡ (space ∷ signed (get_or l j 0)) ++ onward (map signed (drop (j + 1) l))
unfolding onward
atoms-next l j h = rw (add-one j, drop-cons l j 0 h)

pub atoms-end : (l : List ℕ) (j : ℕ) → length l ≤ j → onward (map signed (drop j l)) ≡ line_feed ∷ []
unfolding onward
atoms-end l j h = rw (drop_of_length-le l {i = j} h)
