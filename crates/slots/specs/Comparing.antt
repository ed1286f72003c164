-- Laws of labels where they lie: their length, an atom and a part of one by their own bytes; and what it is to have the atoms of
-- another label from a place on. Rests on Laid, on laws' Layout and Pieces and on the meaning's Laws/Tests.
use Rattle.std.specs.Prelude.{◌≡◌, refl, Bool, true, false, List, [], ◌∷◌, ◌++◌, map, ℕ, ◌+◌, ◌-◌, ◌*◌, ◌/◌, ◌<◌, ◌≤◌, eqb, length, get_or, take, drop}
use Rattle.std.specs.Bool.{MatchBool}
use Rattle.std.proofs.Common.{sym, ◌∙◌, ap, arith, eq-eqb, ne_eqb, length-take, length-drop, drop_of_length-le, length-take-le, get_or-take, get_or-drop, drop-drop, ext_get_or}
use Rattle.std.proofs.Math.Decide.{ℕ_discrete}
use Rattle.meaning.specs.Basics.{both, same, concat}
use Rattle.meaning.specs.Numbers.{number}
use Rattle.meaning.specs.Layout.{atom_length, pieces, cut, read_atoms}
use Rattle.meaning.specs.Laws.Tests.{same_true, same_of}
use Rattle.laws.specs.Layout.{length-atoms, get_or-atoms}
use Rattle.laws.specs.Pieces.{concat-pieces, cut-concat, Wide-pieces}
use Rattle.slots.specs.Laid.{laid}

-- Bytes.

pub laid-length : (b : List ℕ) → length (laid b) ≡ length b / atom_length
laid-length b = length-atoms (length b / atom_length) b

-- an atom is the number in its own bytes
pub laid-at : (b : List ℕ) (k : ℕ) → k < length (laid b) → number (take atom_length (drop (atom_length * k) b)) ≡ get_or (laid b) k 0
laid-at b k h =
    let e : atom_length * k ≡ k * atom_length = omega arith in
    rw e (sym (get_or-atoms (length b / atom_length) b k (omega (arith, laid-length b))))

-- bytes that are as long as n atoms have those
pub laid-front : (n : ℕ) (b : List ℕ) → atom_length * n ≤ length b → laid (take (atom_length * n) b) ≡ read_atoms n b
laid-front n b h =
    let e : atom_length * n ≡ n * atom_length = omega arith in
    let c : cut atom_length (concat (pieces atom_length n b)) ≡ pieces atom_length n b = cut-concat atom_length _ (omega arith) (Wide-pieces atom_length n b (omega arith)) in
    rw e (ap (map number) (rw (concat-pieces atom_length n b) at c))

-- part of a label
module _ (b : List ℕ) (from n : ℕ) (fits : from + n ≤ length (laid b)) where
  pub laid-part : laid (take (atom_length * n) (drop (atom_length * from) b)) ≡ take n (drop from (laid b))
  laid-part =
      laid-front n (drop (atom_length * from) b) (omega (arith, length-drop (atom_length * from) b, laid-length b))
      ∙ ext_get_or 0 _ _ (length-atoms n _ ∙ sym long) (λ j h.
      let k : j < n = omega (arith, length-atoms n (drop (atom_length * from) b)) in
      let e : atom_length * from + j * atom_length ≡ (from + j) * atom_length = omega arith in
      get_or-atoms n (drop (atom_length * from) b) j k
      ∙ rw (drop-drop (j * atom_length) (atom_length * from) b, e)
      (sym (get_or-take n (drop from (laid b)) j 0 k ∙ get_or-drop from (laid b) j 0
      ∙ get_or-atoms (length b / atom_length) b (from + j) (omega (arith, laid-length b)))))
    where
      long : length (take n (drop from (laid b))) ≡ n
      long = length-take-le n (drop from (laid b)) (omega (arith, length-drop from (laid b)))

-- Atoms from a place on.

same-no : (l m : List ℕ) → (l ≡ m → ⊥) → false ≡ same l m
same-no l m h = go (same l m) refl
  where
    go : (b : Bool) → same l m ≡ b → false ≡ same l m
    go true q = absurd (h (same_true l m q))
    go false q = sym q

-- the atoms m have the atoms l from a place on, if there are as many and each is the same
module _ (m l : List ℕ) (from : ℕ) where
  pub has_short : length m - from < length l → false ≡ same (take (length l) (drop from m)) l
  has_short s =
      same-no _ _ (λ e.
      let d = length-drop from m in
      let t = length-take (length l) (drop from m) in
      let q = ap length e in
      omega arith)

  module _ (fits : from + length l ≤ length m) where
    there-at : (j : ℕ) → j < length l → get_or (take (length l) (drop from m)) j 0 ≡ get_or m (from + j) 0
    there-at j k = get_or-take (length l) (drop from m) j 0 k ∙ get_or-drop from m j 0

    pub has_other : (j : ℕ) → j < length l → (get_or m (from + j) 0 ≡ get_or l j 0 → ⊥) → false ≡ same (take (length l) (drop from m)) l
    has_other j k d = same-no _ _ (λ e. d (sym (there-at j k) ∙ ap (λ (x : List ℕ). get_or x j 0) e))

    pub has_all : ((j : ℕ) → j < length l → get_or m (from + j) 0 ≡ get_or l j 0) → true ≡ same (take (length l) (drop from m)) l
    has_all e =
        let d = length-drop from m in
        let t = length-take-le (length l) (drop from m) (omega arith) in
        sym (same_of _ l (ext_get_or 0 _ l t (λ j k. there-at j (omega arith) ∙ e j (omega arith))))

    -- what a walk over the atoms of l finds
    pub has_tested : (r : Bool)
        → MatchBool r ((j : ℕ) → j < length l → get_or m (from + j) 0 ≡ get_or l j 0) ((j : ℕ) × (j < length l) × (get_or m (from + j) 0 ≡ get_or l j 0 → ⊥))
        → r ≡ same (take (length l) (drop from m)) l
    has_tested true h = has_all h
    has_tested false h = has_other h.0 h.1 h.2

-- the atoms of a label are those of two in a row, if it begins with the first and goes on with the second
pub same_append : (xs ys zs : List ℕ) → same xs (ys ++ zs) ≡ both (same (take (length ys) xs) ys) (same (drop (length ys) xs) zs)
unfolding same both
same_append xs [] zs = refl
same_append [] (b ∷ ys) zs = refl
same_append (a ∷ xs) (b ∷ ys) zs = at (eqb a b) (same_append xs ys zs)
  where
    at : (t : Bool) → same xs (ys ++ zs) ≡ both (same (take (length ys) xs) ys) (same (drop (length ys) xs) zs)
        → both t (same xs (ys ++ zs)) ≡ both (both t (same (take (length ys) xs) ys)) (same (drop (length ys) xs) zs)
    at true e = e
    at false e = refl

-- the same from a place on: a step of a walk, and its end
pub same_step : (xs ys zs : List ℕ) (from : ℕ)
    → same (drop from xs) (ys ++ zs) ≡ both (same (take (length ys) (drop from xs)) ys) (same (drop (from + length ys) xs) zs)
same_step xs ys zs from = rw (← (drop-drop (length ys) from xs)) (same_append (drop from xs) ys zs)

pub same_end : (xs : List ℕ) (from : ℕ) → from ≤ length xs → same (drop from xs) [] ≡ eqb from (length xs)
same_end xs from h = go (ℕ_discrete from (length xs))
  where
    go : Dec (from ≡ length xs) → same (drop from xs) [] ≡ eqb from (length xs)
    go (yes e) = same_of _ [] (drop_of_length-le xs {i = from} (omega arith)) ∙ sym (eq-eqb _ _ e)
    go (no d) =
        let k = length-drop from xs in
        sym (same-no (drop from xs) [] (λ e. let z = ap length e in omega arith)) ∙ sym (ne_eqb _ _ d)
