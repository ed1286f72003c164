-- Digits one after the other: whether all are digits, and the number that they write as far as it is kept. Rests on specs/Integers.
use mathlib.Core.Path.{◌≡◌, refl, ◌∙◌}
use mathlib.Core.Bool.{Bool, true, false}
use mathlib.Core.List.{List, [], ◌∷◌, ◌++◌}
use Prim.Native.Nat.{ℕ, ◌+◌, ◌-◌, ◌*◌, ◌<◌, ◌≤◌}
use native.Mathlib.Numerals.{add-one}
use native.Mathlib.Omega.{arith}
use borrow.Author.Tests.{leb-true}
use lib.ListN.{length, get_or, take}
use lib.Seq.{slice, slice_empty, take-suc, drop-append-le, length-take-le, get_or-take, get_or-drop, length-slice}
use Rattle.std.specs.List.{list_all}
use Rattle.std.proofs.Common.{◌&&◌}
use Rattle.meaning.specs.Basics.{both, every}
use Rattle.meaning.specs.Numbers.{whole}
use Rattle.meaning.specs.Laws.Tests.{both_true, every_true}
use Rattle.writing.specs.Words.{digit_zero}
use Rattle.text.specs.Words.{is_digit, within}
use Rattle.text.specs.Integers.{value, value_from}
use Rattle.text.proofs.Decimals.{value_snoc}
use Rattle.parsing.specs.Integers.{Capped}

abbrev pub byte : List ℕ → ℕ → ℕ
byte bs at = get_or bs at 0

slice-more : (bs : List ℕ) (from at : ℕ) → from ≤ at → at < length bs → slice from (at + 1) bs ≡ slice from at bs ++ byte bs at ∷ []
slice-more bs from at h k =
    rw (add-one at, take-suc bs at 0 k) (drop-append-le from (take at bs) (byte bs at ∷ []) (rw (length-take-le at bs (omega arith)) h))

-- All are digits.

pub every-listed : {A : Type 0} (f : A → Bool) (l : List A) → list_all f l ≡ every f l
unfolding every both
every-listed f [] = refl
every-listed f (a ∷ l) = at (f a) (every-listed f l)
  where
    at : (b : Bool) → list_all f l ≡ every f l → (b && list_all f l) ≡ both b (every f l)
    at true e = e
    at false e = refl

module _ (bs : List ℕ) (from : ℕ) where
  module _ (to i : ℕ) (h : from ≤ i) (j : i < to) (k : to ≤ length bs) where
    digit_at : every is_digit (slice from to bs) ≡ true → is_digit (byte bs i) ≡ true
    digit_at e =
        let z : from + (i - from) ≡ i = omega arith in
        let l : i - from < length (slice from to bs) = rw (length-slice from to bs k) (omega arith) in
        let q : get_or (slice from to bs) (i - from) 0 ≡ byte bs i = get_or-drop from (take to bs) (i - from) 0 ∙ rw z (get_or-take to bs i 0 j) in
        rw q at (every_true is_digit (slice from to bs) 0 e (i - from) l)

    pub digit_range : every is_digit (slice from to bs) ≡ true → (digit_zero ≤ byte bs i) × (byte bs i ≤ digit_zero + 9)
    unfolding is_digit within
    digit_range e = let t = both_true _ _ (digit_at e) in (leb-true digit_zero _ t.0, leb-true _ (digit_zero + 9) t.1)

-- The number, as far as it is kept.

pub capped_none : (bs : List ℕ) (from : ℕ) → Capped (value (slice from from bs)) 0
unfolding value_from
capped_none bs from = rw (slice_empty from bs) (record { exact = λ h. refl; over = λ h. omega arith })

module _ (bs : List ℕ) (from i v u : ℕ) (h : from ≤ i) (k : i < length bs) (c : Capped (value (slice from i bs)) v) where
  pub capped_more : v ≤ whole → u ≡ v * 10 + (byte bs i - digit_zero) → Capped (value (slice from (i + 1) bs)) u
  capped_more l e =
      rw (slice-more bs from i h k, value_snoc (slice from i bs) (byte bs i), c.exact l, e) (record { exact = λ h. refl; over = λ h. h })

  pub capped_stay : whole < v → u ≡ v → Capped (value (slice from (i + 1) bs)) u
  capped_stay l e =
      let o = c.over l in
      rw (slice-more bs from i h k, value_snoc (slice from i bs) (byte bs i), e)
      (record { exact = λ h. absurd (omega arith); over = λ h. omega arith })
