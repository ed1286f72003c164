-- The odometer's measure: how many steps are left if every candidate passes.
use Prim.Native.Nat.{ℕ, zero, suc, ◌+◌, ◌-◌, ◌*◌, ◌<◌, ◌≤◌}
use mathlib.Core.Path.{◌≡◌, refl, ap}
use mathlib.Core.List.{List}
use native.Mathlib.Omega.{arith}
use native.Mathlib.Numerals.{add-one}
use native.Mathlib.Nat.{mul-le-mul_right, suc-mul}
use lib.ListN.{length, get_or, set}
use lib.Seq.{get_or-set_same, get_or-set_other}

-- b is above every candidate
module _ (b : ℕ) where
  -- the steps below one candidate, with m levels under it
  load : ℕ → ℕ
  load zero = 2
  load (suc m) = b * load m + 2

  -- the steps of a level's candidates from c on
  abbrev pend : ℕ → ℕ → ℕ
  pend zero c = 0
  pend (suc m) c = (b - c) * load m

  module _ (total : ℕ) where
    stack : List ℕ → ℕ → ℕ
    stack at zero = 0
    stack at (suc i) = stack at i + pend (total - i) (suc (get_or at i 0)) + 1

    pub steps : List ℕ → ℕ → ℕ → ℕ
    steps at i c = stack at i + pend (total - i) c

    stack_set : (at : List ℕ) (i j v : ℕ) → i ≤ j → stack (set at j v) i ≡ stack at i
    unfolding stack steps
    stack_set at zero j v h = refl
    stack_set at (suc i) j v h = rw (get_or-set_other at j i v 0 (omega arith), stack_set at i j v (omega arith))

    pend-load : (m : ℕ) → pend m 0 + 2 ≡ load m
    unfolding load
    pend-load zero = refl
    pend-load (suc m) = let e : b - 0 ≡ b = omega arith in rw e

    pub push-falls : (at : List ℕ) (i c x : ℕ) → i < total → i < length at → c ≤ x → x < b
        → steps (set at i x) (i + 1) 0 < steps at i c
    unfolding stack steps
    push-falls at i c x h l k o =
        let m : total - i ≡ suc (total - suc i) = omega arith in
        let e : b - x ≡ suc (b - suc x) = omega arith in
        let w : ℕ = load (total - suc i) in
        rw (add-one, get_or-set_same at i x 0 l, stack_set at i i x (omega arith), m)
        (omega (arith, pend-load (total - suc i), mul-le-mul_right {m = b - x} {n = b - c} w (omega arith), ap (λ (n : ℕ). n * w) e, suc-mul (b - suc x) w))

    pub pop-falls : (at : List ℕ) (i c : ℕ) → 0 < i → steps at (i - 1) (get_or at (i - 1) 0 + 1) < steps at i c
    unfolding stack steps
    pop-falls at zero c h = absurd (omega arith)
    pop-falls at (suc i) c h = let e : suc i - 1 ≡ i = omega arith in rw (add-one, e) (omega arith)
