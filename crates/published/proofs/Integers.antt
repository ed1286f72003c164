-- Integers without bound, and atoms, which name them. An atom is a natural number: one below 2^32 names the signed value of its
-- 32-bit word, as in document 01, and the others name the integers beyond, 2^31, -2^31 - 1, 2^31 + 1, .. in turn. Each integer has
-- exactly one name (`atom-named`, `named-atom`), so that a list of atoms is a list of integers, and equal atoms are equal integers.
-- Below them: a sum, a difference or an order of words, where document 01 has one, is that of the integers.
-- Rests on the meaning's Numbers and on their laws.
use Rattle.std.specs.Prelude.{ℕ, suc, ◌+◌, ◌-◌, ◌*◌, ◌/◌, ◌%◌, ◌<◌, ◌≤◌, ◌≡◌, refl, ltb, ℤ, pos, negsuc, ◌+ℤ◌, ◌-ℤ◌}
use Rattle.std.proofs.Common.{sym, ◌∙◌, ap, arith, lt-ltb}
use Rattle.std.proofs.Math.Option.{some}
use Rattle.std.proofs.Math.Decide.{dec_lt, ℕ_discrete}
use Rattle.std.proofs.Math.IntN.{sub_ℕ}
use Rattle.std.specs.Int.Signed.{lt_z}
use Rattle.meaning.specs.Basics.{choose}
use Rattle.meaning.specs.Numbers.{half, whole, less, sum, difference}
use Rattle.meaning.specs.Laws.Tests.{choose_lt, choose_le, choose_eq, choose_ne}
use Rattle.laws.specs.Numbers.{value, sum-some, sum-value, difference-some, difference-value, less-value}
use Rattle.published.specs.Integers.{beyond, named, atom}

-- Each integer has one name.

named-low : (n : ℕ) → n < half → named n ≡ pos n
unfolding named value
named-low n h = choose_lt n whole _ _ (omega arith) ∙ choose_lt n half _ _ h

named_mid : (n : ℕ) → half ≤ n → n < whole → named n ≡ negsuc (whole - suc n)
unfolding named value
named_mid n h k =
    let s : sub_ℕ n whole ≡ negsuc (whole - suc n) = rw (lt-ltb n whole k) in
    choose_lt n whole _ _ k ∙ choose_le n half _ _ h ∙ s

named_even : (n : ℕ) → whole ≤ n → (n - whole) % 2 ≡ 0 → named n ≡ pos (half + (n - whole) / 2)
unfolding named beyond
named_even n h e = choose_le n whole _ _ h ∙ choose_eq ((n - whole) % 2) 0 _ _ e

named_odd : (n : ℕ) → whole ≤ n → ((n - whole) % 2 ≡ 0 → ⊥) → named n ≡ negsuc (half + (n - whole) / 2)
unfolding named beyond
named_odd n h e = choose_le n whole _ _ h ∙ choose_ne ((n - whole) % 2) 0 _ _ e

pub atom-named : (n : ℕ) → atom (named n) ≡ n
unfolding atom
atom-named n = at (dec_lt n half) (dec_lt n whole) (ℕ_discrete ((n - whole) % 2) 0)
  where
    at : Dec (n < half) → Dec (n < whole) → Dec ((n - whole) % 2 ≡ 0) → atom (named n) ≡ n
    at (yes h) w e = ap atom (named-low n h) ∙ choose_lt n half _ _ h
    at (no h) (yes w) e = ap atom (named_mid n (omega arith) w) ∙ choose_lt (whole - suc n) half _ _ (omega arith) ∙ omega arith
    at (no h) (no w) (yes e) = ap atom (named_even n (omega arith) e) ∙ choose_le (half + (n - whole) / 2) half _ _ (omega arith) ∙ omega arith
    at (no h) (no w) (no e) = ap atom (named_odd n (omega arith) e) ∙ choose_le (half + (n - whole) / 2) half _ _ (omega arith) ∙ omega arith

pub named-atom : (z : ℤ) → named (atom z) ≡ z
unfolding atom
named-atom (pos p) = at (dec_lt p half)
  where
    at : Dec (p < half) → named (choose (ltb p half) p (whole + 2 * (p - half))) ≡ pos p
    at (yes h) = ap named (choose_lt p half _ _ h) ∙ named-low p h
    at (no h) =
        ap named (choose_le p half _ _ (omega arith)) ∙ named_even (whole + 2 * (p - half)) (omega arith) (omega arith) ∙ ap pos (omega arith)
named-atom (negsuc q) = at (dec_lt q half)
  where
    at : Dec (q < half) → named (choose (ltb q half) (whole - suc q) (whole + 2 * (q - half) + 1)) ≡ negsuc q
    at (yes h) =
        ap named (choose_lt q half _ _ h) ∙ named_mid (whole - suc q) (omega arith) (omega arith) ∙ ap negsuc (omega arith)
    at (no h) =
        ap named (choose_le q half _ _ (omega arith)) ∙ named_odd (whole + 2 * (q - half) + 1) (omega arith) (λ e. omega arith)
        ∙ ap negsuc (omega arith)

-- so integers are equal exactly where their names are
pub named-apart : (m n : ℕ) → named m ≡ named n → m ≡ n
named-apart m n e = sym (atom-named m) ∙ ap atom e ∙ atom-named n

-- Words: the sum, the difference and the order of two words, where document 01 has one, is that of their integers.

-- a word names its signed value
pub named-word : (w : ℕ) → w < whole → named w ≡ value w
unfolding named
named-word w h = choose_lt w whole _ _ h

module _ (a b : ℕ) (ha : a < whole) (hb : b < whole) where
  pub sum-named : (c : ℕ) → sum a b ≡ some c → c ≡ atom (named a +ℤ named b)
  sum-named c e =
      let k = sum-some a b c e in
      let v = (sum-value a b ha hb c k.0).0 e in
      rw (named-word a ha, named-word b hb, v, ← (named-word c k.0), atom-named c) refl

  pub difference-named : (c : ℕ) → difference a b ≡ some c → c ≡ atom (named a -ℤ named b)
  difference-named c e =
      let k = difference-some a b c e in
      let v = (difference-value a b ha hb c k.0).0 e in
      rw (named-word a ha, named-word b hb, v, ← (named-word c k.0), atom-named c) refl

  pub less-named : less a b ≡ lt_z (named a) (named b)
  less-named = rw (named-word a ha, named-word b hb) (less-value a b ha hb)
