-- Laws for the loops over bytes: copying, testing for zeros, writing a number.
use Prim.Native.Nat.{ℕ, zero, suc, ◌+◌, ◌-◌, ◌/◌, ◌%◌, ◌^◌, ◌<◌, ◌≤◌}
use mathlib.Core.Path.{◌≡◌, refl, sym, ◌∙◌, ap}
use mathlib.Core.List.{List, [], ◌∷◌, ◌++◌, append-nil}
use mathlib.Core.Bool.{Bool, true, false, ◌&&◌}
use native.Mathlib.Omega.{arith}
use native.Mathlib.Nat.{div-div-eq-div-mul, pow-suc, div-one}
use native.Mathlib.Numerals.{add-one}
use lib.Dec.{eqb}
use lib.ListN.{length, get_or, set, take, drop, drop_of_length-le}
use lib.Seq.{drop-cons, take_all}
use Rattle.meaning.specs.Basics.{both, zeros}
use Rattle.meaning.specs.Numbers.{number, bytes}

-- Copying: after i stores the bytes are the first i of s, then d's.

copy_suc : (i : ℕ) (s d : List ℕ) → i < length s → i < length d → set (take i s ++ drop i d) i (get_or s i 0) ≡ take (suc i) s ++ drop (suc i) d
copy_suc i [] d h k = absurd (omega arith)
copy_suc i (a ∷ s) [] h k = absurd (omega arith)
copy_suc zero (a ∷ s) (b ∷ d) h k = refl
copy_suc (suc i) (a ∷ s) (b ∷ d) h k = ap (λ (l : List ℕ). a ∷ l) (copy_suc i s d (omega arith) (omega arith))

pub copy_more : (i : ℕ) (s d : List ℕ) → i < length s → i < length d → set (take i s ++ drop i d) i (get_or s i 0) ≡ take (i + 1) s ++ drop (i + 1) d
copy_more i s d h k = rw (add-one i) (copy_suc i s d h k)

pub copy_all : (i : ℕ) (s d : List ℕ) → length s ≤ i → length d ≤ i → take i s ++ drop i d ≡ s
copy_all i s d h k = rw (take_all i s h, drop_of_length-le d k) (append-nil s)

-- Zeros.

-- one byte more that was looked at
pub zeros-seen : (i : ℕ) (l : List ℕ) (all : Bool) → i < length l → both (all && eqb (get_or l i 0) 0) (zeros (drop (i + 1) l)) ≡ both all (zeros (drop i l))
unfolding zeros both
zeros-seen i l true h = rw (add-one i, drop-cons l i 0 h)
zeros-seen i l false h = refl

pub zeros-end : (i : ℕ) (l : List ℕ) → length l ≤ i → zeros (drop i l) ≡ true
unfolding zeros
zeros-end i l h = rw (drop_of_length-le l h)

-- Numbers, written from the last byte on.

set_last : (p v : ℕ) (d t : List ℕ) → p < length d → set (take (suc p) d ++ t) p v ≡ take p d ++ (v ∷ t)
set_last p v [] t h = absurd (omega arith)
set_last zero v (a ∷ d) t h = refl
set_last (suc p) v (a ∷ d) t h = ap (λ (l : List ℕ). a ∷ l) (set_last p v d t (omega arith))

-- the bytes of n from the place p on are written
abbrev pub writing : ℕ → ℕ → List ℕ → List ℕ
writing n p d = take p d ++ bytes (length d - p) n

pub writing-none : (n : ℕ) (d : List ℕ) → writing n (length d) d ≡ d
unfolding bytes
writing-none n d =
    let e : length d - length d ≡ 0 = omega arith in
    rw (take_all (length d) d (omega arith), e) (append-nil d)

pub writing_more : (n p : ℕ) (d : List ℕ) → 0 < p → p ≤ length d
    → set (writing n p d) (p - 1) (n / 256 ^ (length d - p) % 256) ≡ writing n (p - 1) d
unfolding bytes
writing_more n p d h k =
    let e : p ≡ suc (p - 1) = omega arith in
    let f : length d - (p - 1) ≡ suc (length d - p) = omega arith in
    rw f (ap (λ (q : ℕ). set (take q d ++ bytes (length d - p) n) (p - 1) (n / 256 ^ (length d - p) % 256)) e
    ∙ set_last (p - 1) (n / 256 ^ (length d - p) % 256) d (bytes (length d - p) n) (omega arith))

pub rest-none : (n : ℕ) (d : List ℕ) → n ≡ n / 256 ^ (length d - length d)
rest-none n d =
    let e : length d - length d ≡ 0 = omega arith in
    rw e (sym (div-one n))

pub rest_more : (n p : ℕ) (d : List ℕ) → 0 < p → p ≤ length d → n / 256 ^ (length d - p) / 256 ≡ n / 256 ^ (length d - (p - 1))
rest_more n p d h k =
    let f : length d - (p - 1) ≡ suc (length d - p) = omega arith in
    rw (f, pow-suc 256 (length d - p)) (div-div-eq-div-mul n (256 ^ (length d - p)) 256)

pub writing-all : (n p : ℕ) (d : List ℕ) → p ≡ 0 → writing n p d ≡ bytes (length d) n
writing-all n p d h = let e : length d - 0 ≡ length d = omega arith in rw (h, e)

-- A number of one byte.

pub number-one : (at : ℕ) (l : List ℕ) → at < length l → number (take 1 (drop at l)) ≡ get_or l at 0
unfolding number
number-one at l h = rw (drop-cons l at 0 h) (omega arith)
