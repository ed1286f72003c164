-- Decimals: reading the digits that were written gives the number, and an atom's integer is read as the atom. Rests on Integers, Formed
-- and Parsing, and on writing's Words.
use Rattle.std.specs.Prelude.{◌≡◌, refl, Bool, true, false, List, [], ◌∷◌, ◌++◌, ltb}
use Rattle.std.proofs.Common.{sym, ◌∙◌, ap, mod-lt, mod-eq_of_lt, le-leb, lt-ltb, le-ltb}
use Prim.Native.Nat.{ℕ, zero, suc, ◌+◌, ◌-◌, ◌*◌, ◌/◌, ◌%◌, ◌<◌, ◌≤◌}
use Rattle.std.proofs.Math.Nat.{div-lt_self}
use Rattle.std.proofs.Math.Decide.{dec_lt}
use native.Mathlib.Omega.{arith}
use Rattle.meaning.specs.Basics.{choose, every, same, is_empty}
use Rattle.meaning.specs.Numbers.{half, whole}
use Rattle.meaning.specs.Laws.Tests.{both_of, choose_lt, choose_le, every_append, same_true, not_so}
use Rattle.writing.specs.Words.{digit_zero, digits, decimal}
use Rattle.text.specs.Words.{name, is_digit, within}
use Rattle.text.specs.Integers.{integer_of, value_from, value, is_atom, atom}
use Rattle.text.specs.Formed.{Proper, Digits, FormedInteger}
use Rattle.text.proofs.Parsing.{digits-letters}

-- What holds of one digit, and of a digit behind those of a tenth, holds of a number's digits.

module _ (P : ℕ → List ℕ → Type 0) (one : (n : ℕ) → n < 10 → P n ((digit_zero + n) ∷ []))
    (more : (n : ℕ) (l : List ℕ) → 10 ≤ n → P (n / 10) l → P n (l ++ (digit_zero + n % 10) ∷ []))
  where
    digits-by : (most n : ℕ) → n < most → P n (digits most n)
    unfolding digits
    digits-by zero n h = absurd (omega arith)
    digits-by (suc most) n h = at (dec_lt n 10) (digits-by most (n / 10))
      where
        at : Dec (n < 10) → (n / 10 < most → P (n / 10) (digits most (n / 10)))
            → P n (choose (ltb n 10) ((digit_zero + n) ∷ []) (digits most (n / 10) ++ (digit_zero + n % 10) ∷ []))
        at (yes k) ih = rw (choose_lt n 10) (one n k)
        at (no k) ih =
            let large : 10 ≤ n = omega arith in
            let less : n / 10 < n = div-lt_self (omega arith) (omega arith) in
            rw (choose_le n 10) (more n _ large (ih (omega arith)))

    decimal-by : (n : ℕ) → P n (decimal n)
    unfolding decimal
    decimal-by n = digits-by (suc n) n (omega arith)

-- Values.

value_append : (n : ℕ) (l m : List ℕ) → value_from n (l ++ m) ≡ value_from (value_from n l) m
unfolding value_from
value_append n [] m = refl
value_append n (d ∷ l) m = value_append (n * 10 + (d - digit_zero)) l m

-- a digit more
pub value_snoc : (l : List ℕ) (d : ℕ) → value (l ++ d ∷ []) ≡ value l * 10 + (d - digit_zero)
unfolding value_from
value_snoc l d = value_append 0 l (d ∷ [])

pub value-decimal : (n : ℕ) → value (decimal n) ≡ n
value-decimal =
    decimal-by (λ n l. value l ≡ n) (λ n h. unfold value_from in omega arith)
    (λ n l h e. rw (value_snoc l (digit_zero + n % 10), e) (omega arith))

-- two numbers that are written alike are equal
pub decimal-apart : (a b : ℕ) → (a ≡ b → ⊥) → same (decimal a) (decimal b) ≡ false
decimal-apart a b h =
    not_so _ (λ e. h (sym (value-decimal a) ∙ ap value (same_true (decimal a) (decimal b) e) ∙ value-decimal b))

-- Digits.

digit : (d : ℕ) → d < 10 → is_digit (digit_zero + d) ≡ true
unfolding is_digit within
digit d h = both_of _ _ (le-leb digit_zero (digit_zero + d) (omega arith)) (le-leb (digit_zero + d) (digit_zero + 9) (omega arith))

behind-some : (l : List ℕ) (d : ℕ) → is_empty (l ++ d ∷ []) ≡ false
unfolding is_empty
behind-some [] d = refl
behind-some (a ∷ l) d = refl

pub decimal-formed : (n : ℕ) → Digits (decimal n)
unfolding every is_empty
decimal-formed =
    decimal-by (λ n l. Digits l) (λ n h. (refl, both_of _ _ (digit n h) refl))
    (λ n l h p. (
      behind-some l (digit_zero + n % 10),
      every_append is_digit l ((digit_zero + n % 10) ∷ []) ∙ both_of _ _ p.1 (both_of _ _ (digit (n % 10) (mod-lt n (omega arith))) refl),
    ))

pub decimal_proper : (n : ℕ) → Proper (name (decimal n))
decimal_proper n = let t = decimal-formed n in (t.0, digits-letters (decimal n) t.1)

-- Atoms.

pub integer-formed : (w : ℕ) → FormedInteger (integer_of w)
unfolding integer_of choose
integer-formed w = at (ltb w half)
  where
    at : (b : Bool)
        → FormedInteger (choose b (record { negative = false; digits = decimal w }) (record { negative = true; digits = decimal (whole - w) }))
    at true = decimal-formed w
    at false = decimal-formed (whole - w)

-- an atom that was written is read
pub atom-integer : (w : ℕ) → w < whole → (is_atom (integer_of w) ≡ true) × (atom (integer_of w) ≡ w)
unfolding integer_of is_atom atom choose
atom-integer w h = at (dec_lt w half)
  where
    at : Dec (w < half) → (is_atom (integer_of w) ≡ true) × (atom (integer_of w) ≡ w)
    at (yes k) = rw (lt-ltb w half k) (rw (value-decimal w) (lt-ltb w half k), value-decimal w)
    at (no k) =
        let z : whole - (whole - w) ≡ w = omega arith in
        rw (le-ltb w half (omega arith), value-decimal (whole - w)) (le-leb (whole - w) half (omega arith), rw (z, mod-eq_of_lt h))

-- For code: the last digit behind the others.

pub decimal-one : (n : ℕ) → n < 10 → decimal n ≡ (digit_zero + n) ∷ []
unfolding decimal digits
decimal-one n h = choose_lt n 10 _ _ h

-- however many digits there may be, if enough
digits-enough : (n most : ℕ) → n < most → digits most n ≡ decimal n
unfolding digits
digits-enough = decimal-by (λ n l. (most : ℕ) → n < most → digits most n ≡ l) one more
  where
    one : (n : ℕ) → n < 10 → (most : ℕ) → n < most → digits most n ≡ (digit_zero + n) ∷ []
    one n h zero k = absurd (omega arith)
    one n h (suc most) k = choose_lt n 10 _ _ h

    more : (n : ℕ) (l : List ℕ) → 10 ≤ n → ((most : ℕ) → n / 10 < most → digits most (n / 10) ≡ l)
        → (most : ℕ) → n < most → digits most n ≡ l ++ (digit_zero + n % 10) ∷ []
    more n l h f zero k = absurd (omega arith)
    more n l h f (suc most) k =
        let less : n / 10 < n = div-lt_self (omega arith) (omega arith) in
        choose_le n 10 _ _ h ∙ ap (λ (l : List ℕ). l ++ (digit_zero + n % 10) ∷ []) (f most (omega arith))

pub decimal-more : (n : ℕ) → 10 ≤ n → decimal n ≡ decimal (n / 10) ++ (digit_zero + n % 10) ∷ []
unfolding decimal digits
decimal-more n h =
    let less : n / 10 < n = div-lt_self (omega arith) (omega arith) in
    choose_le n 10 _ _ h ∙ ap (λ (l : List ℕ). l ++ (digit_zero + n % 10) ∷ []) (digits-enough (n / 10) n less)
