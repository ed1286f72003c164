-- Laws of Numbers: bytes write numbers and numbers bytes, each back again; words and their signed values.
-- Rests on the meaning's Basics, Numbers and Laws/Tests.
use Rattle.std.specs.Prelude.{ℕ, zero, suc, ◌+◌, ◌-◌, ◌*◌, ◌/◌, ◌%◌, ◌^◌, ◌<◌, ◌≤◌, ◌≡◌, refl, List, [], ◌∷◌, true, ◌↔◌, ltb, leb, ℤ, pos, negsuc, neg_ℤ, ◌+ℤ◌, ◌-ℤ◌, length, get_or, take, drop}
use Rattle.std.proofs.Common.{sym, ◌∙◌, ap, mod-eq_of_lt, mul_assoc, lt_of_lt_of_le, arith, lt-ltb, le-ltb, ltb-true, le-leb, leb-true, length-take, length-drop, get_or-drop, drop-cons, length-take-le}
use Rattle.std.proofs.Math.Option.{Option, some}
use Rattle.std.proofs.Math.Nat.{mod-one, pow-succ', one-le-pow, mul-add-div_right, mul-add-mod_self_right, pow-le-pow_right}
use Rattle.std.proofs.Math.Decide.{dec_lt, ℕ_discrete}
use Rattle.std.proofs.Math.IntN.{sub_ℕ}
use Rattle.std.specs.Int.Signed.{lt_z}
use Rattle.std.proofs.Math.Arith.{mod-mul, digits_lt, digits_div}
use Rattle.meaning.specs.Basics.{choose, both, every, ensure, ◌>>◌}
use Rattle.meaning.specs.Numbers.{number, bytes, half, whole, height, less, sum, difference}
use Rattle.meaning.specs.Laws.Tests.{choose_lt, choose_le, both_true, both_of, ensure-some, ensure-yes, some_inj}

-- Bytes.

-- each byte is below 256: what a slice of bytes gives
abbrev pub Bytes : List ℕ → Type 0
Bytes bs = (i : ℕ) → get_or bs i 0 < 256

-- by computing
pub bytes-by : (bs : List ℕ) → every (λ b. ltb b 256) bs ≡ true → Bytes bs
unfolding every
bytes-by [] e i = omega arith
bytes-by (b ∷ bs) e zero = ltb-true b 256 (both_true _ _ e).0
bytes-by (b ∷ bs) e (suc i) = bytes-by bs (both_true _ _ e).1 i

pub length-bytes : (w n : ℕ) → length (bytes w n) ≡ w
unfolding bytes
length-bytes zero n = refl
length-bytes (suc w) n = ap suc (length-bytes w n)

pub Bytes-drop : (n : ℕ) (bs : List ℕ) → Bytes bs → Bytes (drop n bs)
Bytes-drop n bs h i = rw (get_or-drop n bs i 0) (h (n + i))

pub Bytes-take : (n : ℕ) (bs : List ℕ) → Bytes bs → Bytes (take n bs)
Bytes-take zero bs h i = omega arith
Bytes-take (suc n) [] h i = omega arith
Bytes-take (suc n) (b ∷ bs) h zero = h 0
Bytes-take (suc n) (b ∷ bs) h (suc i) = Bytes-take n bs (λ j. h (suc j)) i

pub pow_pos : (w : ℕ) → 0 < 256 ^ w
pow_pos w = one-le-pow w 256 (omega arith)

pub number_lt : (bs : List ℕ) → Bytes bs → number bs < 256 ^ length bs
unfolding number
number_lt [] h = omega arith
number_lt (b ∷ bs) h = rw (pow-succ' 256 (length bs)) (digits_lt (h 0) (number_lt bs (λ i. h (suc i))))

pub number-take_lt : (w : ℕ) (bs : List ℕ) → Bytes bs → number (take w bs) < 256 ^ w
number-take_lt w bs h =
    let l : length (take w bs) ≤ w = rw length-take (omega arith) in
    lt_of_lt_of_le (number_lt (take w bs) (Bytes-take w bs h)) (pow-le-pow_right (omega arith) l)

-- one byte more, from place p on
pub number_at : (k p : ℕ) (bs : List ℕ) → p + suc k ≤ length bs
    → number (take (suc k) (drop p bs)) ≡ get_or bs p 0 * 256 ^ k + number (take k (drop (suc p) bs))
unfolding number
number_at k p bs h =
    let l : k ≤ length (drop (suc p) bs) = rw length-drop (omega arith) in
    rw (drop-cons bs p 0 (omega arith), length-take-le k (drop (suc p) bs) l)

-- the w bytes of a number write its remainder by 256 ^ w
pub number-bytes_mod : (w n : ℕ) → number (bytes w n) ≡ n % 256 ^ w
unfolding number bytes
number-bytes_mod zero n = sym (mod-one n)
number-bytes_mod (suc w) n =
    rw (length-bytes w n, number-bytes_mod w n, pow-succ' 256 w) (sym (mod-mul n (omega arith) (pow_pos w)))

pub number-bytes : (w n : ℕ) → n < 256 ^ w → number (bytes w n) ≡ n
number-bytes w n h = number-bytes_mod w n ∙ mod-eq_of_lt h

-- multiples of 256 ^ w do not show in w bytes
pub bytes-add : (w k n : ℕ) → bytes w (k * 256 ^ w + n) ≡ bytes w n
unfolding bytes
bytes-add zero k n = refl
bytes-add (suc w) k n =
    rw (
      pow-succ' 256 w,
      ← (mul_assoc k 256 (256 ^ w)),
      mul-add-div_right (pow_pos w) (k * 256) n,
      mul-add-mod_self_right k 256 (n / 256 ^ w),
      bytes-add w (k * 256) n,
    )

pub bytes-number : (bs : List ℕ) → Bytes bs → bytes (length bs) (number bs) ≡ bs
unfolding number bytes
bytes-number [] h = refl
bytes-number (b ∷ bs) h =
    let k : Bytes bs = λ i. h (suc i) in
    rw (bytes-add (length bs) b (number bs), digits_div b (number_lt bs k), mod-eq_of_lt (h 0), bytes-number bs k)

-- w bytes are those of the number that they write
pub bytes-number-take : (w : ℕ) (bs : List ℕ) → Bytes bs → w ≤ length bs → bytes w (number (take w bs)) ≡ take w bs
bytes-number-take w bs h l =
    ap (λ (n : ℕ). bytes n (number (take w bs))) (sym (length-take-le w bs l)) ∙ bytes-number (take w bs) (Bytes-take w bs h)

-- Words, by their heights.

pub height_lt : (w : ℕ) → height w < whole
unfolding height
height_lt w = omega arith

pub height-height : (w : ℕ) → w < whole → height (height w) ≡ w
unfolding height
height-height w h = omega arith

-- a value that is there where two orders hold
module _ (p q r s c : ℕ) where
  abbrev within : Option ℕ
  within = ensure (both (leb p q) (ltb r s)) >> some c

  within_of : (d : ℕ) → p ≤ q → r < s → c ≡ d → within ≡ some d
  within_of d h k e = ensure-yes _ _ (both_of _ _ (le-leb p q h) (lt-ltb r s k)) ∙ ap some e

  within-some : (d : ℕ) → within ≡ some d → (p ≤ q) × (r < s) × (c ≡ d)
  within-some d e =
      let t = ensure-some _ _ d e in
      let u = both_true (leb p q) (ltb r s) t.0 in
      (leb-true p q u.0, ltb-true r s u.1, some_inj c d t.1)

-- c is the sum, or the difference, exactly where it is a word whose height says so
pub sum-some : (a b c : ℕ) → sum a b ≡ some c → (c < whole) × (height c + half ≡ height a + height b)
unfolding sum
sum-some a b c e =
    let t = within-some half (height a + height b) (height a + height b) (whole + half) (height (height a + height b - half)) c e in
    let h : half ≤ height a + height b = t.0 in
    let k : height a + height b < whole + half = t.1 in
    let u = height-height (height a + height b - half) (omega arith) in
    rw (← t.2, u) (height_lt _, omega arith)

pub sum_of : (a b c : ℕ) → c < whole → height c + half ≡ height a + height b → sum a b ≡ some c
unfolding sum
sum_of a b c h e =
    let l = height_lt c in
    let k : height a + height b - half ≡ height c = omega arith in
    within_of half (height a + height b) (height a + height b) (whole + half) _ c (omega arith) (omega arith) (ap height k ∙ height-height c h)

pub difference-some : (a b c : ℕ) → difference a b ≡ some c → (c < whole) × (height c + height b ≡ height a + half)
unfolding difference
difference-some a b c e =
    let t = within-some (height b) (height a + half) (height a) (height b + half) (height (height a + half - height b)) c e in
    let h : height b ≤ height a + half = t.0 in
    let k : height a < height b + half = t.1 in
    let u = height-height (height a + half - height b) (omega arith) in
    rw (← t.2, u) (height_lt _, omega arith)

pub difference-of : (a b c : ℕ) → c < whole → height c + height b ≡ height a + half → difference a b ≡ some c
unfolding difference
difference-of a b c h e =
    let l = height_lt c in
    let k : height a + half - height b ≡ height c = omega arith in
    within_of (height b) (height a + half) (height a) (height b + half) _ c (omega arith) (omega arith) (ap height k ∙ height-height c h)

-- Words, by their signed values.

-- w below 2^31, else w - 2^32
unfoldable pub value : ℕ → ℤ
value w = choose (ltb w half) (pos w) (sub_ℕ w whole)

subℕ_lt : (a b : ℕ) → a < b → sub_ℕ a b ≡ negsuc (b - suc a)
subℕ_lt a b h = rw (lt-ltb a b)

subℕ_le : (a b : ℕ) → b ≤ a → sub_ℕ a b ≡ pos (a - b)
subℕ_le a b h = rw (le-ltb a b)

-- differences of naturals: equal, added, negated, compared
subℕ_of : (a b c d : ℕ) → a + d ≡ c + b → sub_ℕ a b ≡ sub_ℕ c d
subℕ_of a b c d e = at (dec_lt a b)
  where
    at : Dec (a < b) → sub_ℕ a b ≡ sub_ℕ c d
    at (yes h) = subℕ_lt a b h ∙ ap negsuc (omega arith) ∙ sym (subℕ_lt c d (omega arith))
    at (no h) = subℕ_le a b (omega arith) ∙ ap pos (omega arith) ∙ sym (subℕ_le c d (omega arith))

subℕ_inj : (a b c d : ℕ) → sub_ℕ a b ≡ sub_ℕ c d → a + d ≡ c + b
subℕ_inj a b c d e = at (dec_lt a b) (dec_lt c d)
  where
    at : Dec (a < b) → Dec (c < d) → a + d ≡ c + b
    at (yes h) (yes k) = let z : b - suc a ≡ d - suc c = cc (subℕ_lt a b h, subℕ_lt c d k) in omega arith
    at (yes h) (no k) = let z : ◌≡◌ {A = ℕ} 0 1 = cc (subℕ_lt a b h, subℕ_le c d (omega arith)) in absurd (omega arith)
    at (no h) (yes k) = let z : ◌≡◌ {A = ℕ} 0 1 = cc (subℕ_le a b (omega arith), subℕ_lt c d k) in absurd (omega arith)
    at (no h) (no k) = let z : a - b ≡ c - d = cc (subℕ_le a b (omega arith), subℕ_le c d (omega arith)) in omega arith

subℕ_add : (a b c d : ℕ) → sub_ℕ a b +ℤ sub_ℕ c d ≡ sub_ℕ (a + c) (b + d)
subℕ_add a b c d = at (dec_lt a b) (dec_lt c d)
  where
    at : Dec (a < b) → Dec (c < d) → sub_ℕ a b +ℤ sub_ℕ c d ≡ sub_ℕ (a + c) (b + d)
    at (yes h) (yes k) =
        rw (subℕ_lt a b h, subℕ_lt c d k) (ap negsuc (omega arith) ∙ sym (subℕ_lt (a + c) (b + d) (omega arith)))
    at (yes h) (no k) =
        rw (subℕ_lt a b h, subℕ_le c d (omega arith)) (subℕ_of (c - d) (suc (b - suc a)) (a + c) (b + d) (omega arith))
    at (no h) (yes k) =
        rw (subℕ_le a b (omega arith), subℕ_lt c d k) (subℕ_of (a - b) (suc (d - suc c)) (a + c) (b + d) (omega arith))
    at (no h) (no k) =
        rw (subℕ_le a b (omega arith), subℕ_le c d (omega arith)) (ap pos (omega arith) ∙ sym (subℕ_le (a + c) (b + d) (omega arith)))

subℕ_neg : (a b : ℕ) → neg_ℤ (sub_ℕ a b) ≡ sub_ℕ b a
subℕ_neg a b = at (dec_lt a b) (ℕ_discrete a b)
  where
    at : Dec (a < b) → Dec (a ≡ b) → neg_ℤ (sub_ℕ a b) ≡ sub_ℕ b a
    at (yes h) e = rw (subℕ_lt a b h) (ap pos (omega arith) ∙ sym (subℕ_le b a (omega arith)))
    at (no h) (yes e) =
        let k : a - b ≡ 0 = omega arith in
        rw (subℕ_le a b (omega arith), k) (ap pos (omega arith) ∙ sym (subℕ_le b a (omega arith)))
    at (no h) (no e) =
        let k : a - b ≡ suc (a - suc b) = omega arith in
        rw (subℕ_le a b (omega arith), k) (sym (subℕ_lt b a (omega arith)))

ltb_eq : (a b c d : ℕ) → a + d ≡ c + b → ltb a c ≡ ltb b d
ltb_eq a b c d e = at (dec_lt a c)
  where
    at : Dec (a < c) → ltb a c ≡ ltb b d
    at (yes h) = lt-ltb a c h ∙ sym (lt-ltb b d (omega arith))
    at (no h) = le-ltb a c (omega arith) ∙ sym (le-ltb b d (omega arith))

subℕ_less : (a b c : ℕ) → lt_z (sub_ℕ a c) (sub_ℕ b c) ≡ ltb a b
subℕ_less a b c = at (dec_lt a c) (dec_lt b c)
  where
    at : Dec (a < c) → Dec (b < c) → lt_z (sub_ℕ a c) (sub_ℕ b c) ≡ ltb a b
    at (yes h) (yes k) = rw (subℕ_lt a c h, subℕ_lt b c k) (ltb_eq (c - suc b) a (c - suc a) b (omega arith))
    at (yes h) (no k) = rw (subℕ_lt a c h, subℕ_le b c (omega arith)) (sym (lt-ltb a b (omega arith)))
    at (no h) (yes k) = rw (subℕ_le a c (omega arith), subℕ_lt b c k) (sym (le-ltb a b (omega arith)))
    at (no h) (no k) = rw (subℕ_le a c (omega arith), subℕ_le b c (omega arith)) (ltb_eq (a - c) a (b - c) b (omega arith))

-- the value is the height less 2^31
pub value-height : (w : ℕ) → w < whole → value w ≡ sub_ℕ (height w) half
unfolding value height
value-height w h = at (dec_lt w half)
  where
    at : Dec (w < half) → choose (ltb w half) (pos w) (sub_ℕ w whole) ≡ sub_ℕ (height w) half
    at (yes k) = choose_lt w half (pos w) (sub_ℕ w whole) k ∙ ap pos (omega arith) ∙ sym (subℕ_le (height w) half (omega arith))
    at (no k) =
        choose_le w half (pos w) (sub_ℕ w whole) (omega arith) ∙ subℕ_of w whole (height w) half (omega arith)

module _ (a b : ℕ) (ha : a < whole) (hb : b < whole) where
  -- a word is less exactly where its value is
  pub less-value : less a b ≡ lt_z (value a) (value b)
  unfolding less
  less-value = rw (value-height a ha, value-height b hb) (sym (subℕ_less (height a) (height b) half))

  -- the sum is c exactly where the values of words a and b add up to the value of word c; there is none where no word has that value
  pub sum-value : (c : ℕ) → c < whole → (sum a b ≡ some c) ↔ (value a +ℤ value b ≡ value c)
  sum-value c hc = (
    λ e. let h = (sum-some a b c e).1 in
        values ∙ subℕ_of (height a + height b) (half + half) (height c) half (omega arith) ∙ sym (value-height c hc),
    λ e. let h = subℕ_inj (height a + height b) (half + half) (height c) half (sym values ∙ e ∙ value-height c hc) in
        sum_of a b c hc (omega arith),
  )
    where
      values : value a +ℤ value b ≡ sub_ℕ (height a + height b) (half + half)
      values = rw (value-height a ha, value-height b hb) (subℕ_add (height a) half (height b) half)

  pub difference-value : (c : ℕ) → c < whole → (difference a b ≡ some c) ↔ (value a -ℤ value b ≡ value c)
  difference-value c hc = (
    λ e. let h = (difference-some a b c e).1 in
        values ∙ subℕ_of (height a + half) (half + height b) (height c) half (omega arith) ∙ sym (value-height c hc),
    λ e. let h = subℕ_inj (height a + half) (half + height b) (height c) half (sym values ∙ e ∙ value-height c hc) in
        difference-of a b c hc (omega arith),
  )
    where
      values : value a -ℤ value b ≡ sub_ℕ (height a + half) (half + height b)
      values = rw (value-height a ha, value-height b hb, subℕ_neg (height b) half) (subℕ_add (height a) half half (height b))
