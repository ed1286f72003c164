-- How many digits a number has. Rests on Words.
use Rattle.std.specs.Prelude.{◌≡◌, [], ◌∷◌, ◌++◌, ℕ, zero, suc, ◌+◌, ◌*◌, ◌/◌, ◌%◌, ◌^◌, ◌<◌, ◌≤◌, length, ltb}
use Rattle.std.proofs.Common.{pow-suc, div-lt_iff_lt-mul, arith, length-append}
use Rattle.std.proofs.Math.Decide.{dec_lt}
use Rattle.meaning.specs.Basics.{choose}
use Rattle.meaning.specs.Laws.Tests.{choose_lt, choose_le}
use Rattle.writing.specs.Words.{digit_zero, digits, decimal}

digits-length : (fuel most n : ℕ) → n < 10 ^ suc most → length (digits fuel n) ≤ suc most
unfolding digits
digits-length zero most n h = omega arith
digits-length (suc fuel) most n h = at (dec_lt n 10) most h (λ m. digits-length fuel m (n / 10))
  where
    at : Dec (n < 10) → (most : ℕ) → n < 10 ^ suc most → ((m : ℕ) → n / 10 < 10 ^ suc m → length (digits fuel (n / 10)) ≤ suc m)
        → length (choose (ltb n 10) ((digit_zero + n) ∷ []) (digits fuel (n / 10) ++ (digit_zero + n % 10) ∷ [])) ≤ suc most
    at (yes g) most h r = rw (choose_lt n 10) (omega arith)
    at (no g) zero h r = absurd (omega arith)
    at (no g) (suc most) h r =
        let e : 10 ^ suc (suc most) ≡ 10 ^ suc most * 10 = pow-suc 10 (suc most) in
        let less : n / 10 < 10 ^ suc most = (div-lt_iff_lt-mul {k = 10} (omega arith)).1 (omega arith) in
        let large : 10 ≤ n = omega arith in
        rw (choose_le n 10, length-append) (omega (arith, r most less))

-- a number below a power of ten has at most so many
pub decimal-length : (most n : ℕ) → 1 ≤ most → n < 10 ^ most → length (decimal n) ≤ most
unfolding decimal
decimal-length zero n o h = absurd (omega arith)
decimal-length (suc most) n o h = digits-length (suc n) most n h
