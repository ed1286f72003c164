-- The digits that `io::decimal` writes are those of the decimal. Rests on Words and io's Digits.
use mathlib.Core.Path.{◌≡◌, ◌∙◌, ap}
use mathlib.Core.List.{List, [], ◌∷◌, ◌++◌}
use Prim.Native.Nat.{ℕ, zero, suc, ◌+◌, ◌-◌, ◌*◌, ◌/◌, ◌%◌, ◌^◌, ◌<◌, ◌≤◌}
use native.Mathlib.Nat.{pow-suc, div-lt_iff_lt-mul, le-div_iff_mul-le, div-lt_self, mod-eq_of_lt, mod-lt, one-le-pow}
use native.Mathlib.Omega.{arith}
use borrow.Author.Tests.{lt-ltb}
use lib.ListN.{take}
use Rattle.meaning.specs.Laws.Tests.{choose_lt, choose_le}
use Rattle.io.specs.Digits.{last_digits as ioDigits, hex_digit_ascii, IsDigitCount}
use Rattle.writing.specs.Words.{digit_zero, digits, decimal}

glyph_digit : (d : ℕ) → d < 10 → hex_digit_ascii d ≡ digit_zero + d
glyph_digit d h = rw (lt-ltb d 10 h)

fewest_digits : (most n k : ℕ) → n < most → IsDigitCount 10 1 n k → ioDigits 10 k n ≡ digits most n
unfolding digits
fewest_digits zero n k h f = absurd (omega arith)
fewest_digits (suc most) n zero h f = absurd (omega arith)
fewest_digits (suc most) n (suc zero) h f =
    let small : n < 10 = f.1 in
    rw (choose_lt n 10 ((digit_zero + n) ∷ []) (digits most (n / 10) ++ (digit_zero + n % 10) ∷ []) small, mod-eq_of_lt small, glyph_digit n small)
fewest_digits (suc most) n (suc (suc k)) h f =
    let p : suc (suc k) - 1 ≡ suc k = omega arith in
    let q : suc k - 1 ≡ k = omega arith in
    let low : 10 ^ suc k ≤ n = rw p at (f.2 (omega arith)) in
    let one : 1 ≤ 10 ^ k = one-le-pow k 10 (omega arith) in
    let e : 10 ^ suc k ≡ 10 ^ k * 10 = pow-suc 10 k in
    let e2 : 10 ^ suc (suc k) ≡ 10 ^ suc k * 10 = pow-suc 10 (suc k) in
    let large : 10 ≤ n = omega arith in
    let high : n / 10 < 10 ^ suc k = (div-lt_iff_lt-mul {k = 10} (omega arith)).1 (omega arith) in
    let less : n / 10 < n = div-lt_self (omega arith) (omega arith) in
    let next : IsDigitCount 10 1 (n / 10) (suc k) = (omega arith, high, λ _. rw q ((le-div_iff_mul-le {k = 10} (omega arith)).1 (omega arith))) in
    rw (choose_le n 10 ((digit_zero + n) ∷ []) (digits most (n / 10) ++ (digit_zero + n % 10) ∷ []) large, glyph_digit (n % 10) (mod-lt n (omega arith)))
    (ap (λ (l : List ℕ). l ++ (digit_zero + n % 10) ∷ []) (fewest_digits most (n / 10) (suc k) (omega arith) next))

fewest_decimal : (n k : ℕ) → IsDigitCount 10 1 n k → ioDigits 10 k n ≡ decimal n
unfolding decimal
fewest_decimal n k f = fewest_digits (suc n) n k (omega arith) f

pub decimal-written : (n k : ℕ) (text : List ℕ) → IsDigitCount 10 1 n k → take k text ≡ ioDigits 10 k n → take k text ≡ decimal n
decimal-written n k text f q = q ∙ fewest_decimal n k f
