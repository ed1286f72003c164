-- An odometer over `deep`: its state is the slots so far, the level and the next candidate, and no step changes the answer from there on.
use Prim.Native.Nat.{ℕ, zero, suc, ◌+◌, ◌-◌, ◌<◌, ◌≤◌}
use mathlib.Core.Path.{◌≡◌, refl, sym, ◌∙◌, ap}
use mathlib.Core.List.{List, [], ◌∷◌, ◌++◌}
use mathlib.Core.Bool.{Bool, true, false}
use mathlib.Core.Option.{Option, some, none}
use native.Mathlib.Omega.{arith}
use native.Mathlib.Numerals.{add-one}
use lib.ListN.{length, get_or, take, set}
use lib.Seq.{take-set-le, take-suc-set, get_or-set_same, get_or-set_other}
use Rattle.meaning.specs.Search.{pick, scan, deep}

pick-none : (a : Option (List ℕ)) → pick true a none ≡ a
pick-none (some p) = refl
pick-none none = refl

pick_assoc : (a b r : Option (List ℕ)) → pick true (pick true a b) r ≡ pick true a (pick true b r)
pick_assoc (some p) b r = refl
pick_assoc none b r = refl

module _ (bound : List ℕ → ℕ) (ok : List ℕ → ℕ → Bool) (full : List ℕ → Bool) where
  -- nothing in c .. x passes
  abbrev pub None : List ℕ → ℕ → ℕ → Type 0
  None p c x = (y : ℕ) → c ≤ y → y < x → ok p y ≡ false

  one : (f : List ℕ → Option (List ℕ)) (p : List ℕ) (c : ℕ) (b : Bool) → c < bound p → ok p c ≡ b
      → scan bound ok full f p c (bound p - c) ≡ pick b (f (p ++ c ∷ [])) (scan bound ok full f p (suc c) (bound p - suc c))
  unfolding scan
  one f p c b h e =
      let g : bound p - c ≡ suc (bound p - suc c) = omega arith in
      rw (g, e)

  past : (f : List ℕ → Option (List ℕ)) (p : List ℕ) (d c x : ℕ) → x ≡ c + d → x ≤ bound p → None p c x
      → scan bound ok full f p c (bound p - c) ≡ scan bound ok full f p x (bound p - x)
  past f p zero c x e h n = let g : c ≡ x = omega arith in rw g
  past f p (suc d) c x e h n =
      one f p c false (omega arith) (n c (omega arith) (omega arith))
      ∙ past f p d (suc c) x (omega arith) h (λ y k. n y (omega arith))

  nothing : (f : List ℕ → Option (List ℕ)) (p : List ℕ) (c k : ℕ) → k ≡ bound p - c → None p c (bound p)
      → scan bound ok full f p c k ≡ none
  unfolding scan
  nothing f p c zero e n = refl
  nothing f p c (suc k) e n = rw (n c (omega arith) (omega arith)) (nothing f p (suc c) k (omega arith) (λ y h. n y (omega arith)))

  here : (m : ℕ) (p : List ℕ) (c x : ℕ) → c ≤ x → x < bound p → ok p x ≡ true → None p c x
      → deep bound ok full (suc m) p c ≡ pick true (deep bound ok full m (p ++ x ∷ []) 0) (deep bound ok full (suc m) p (suc x))
  unfolding deep
  here m p c x k b o n = past _ p (x - c) c x (omega arith) (omega arith) n ∙ one _ p x true b o

  module _ (total : ℕ) where
    -- what is left behind level i: the candidates above the slots so far
    unfoldable pub back : List ℕ → ℕ → Option (List ℕ)
    back at zero = none
    back at (suc i) = pick true (deep bound ok full (total - i) (take i at) (suc (get_or at i 0))) (back at i)

    -- the answer from the state on
    abbrev pub now : List ℕ → ℕ → ℕ → Option (List ℕ)
    now at i c = pick true (deep bound ok full (total - i) (take i at) c) (back at i)

    back-set : (at : List ℕ) (i j v : ℕ) → i ≤ j → back (set at j v) i ≡ back at i
    unfolding back
    back-set at zero j v h = refl
    back-set at (suc i) j v h = rw (take-set-le i at j v (omega arith), get_or-set_other at j i v 0 (omega arith), back-set at i j v (omega arith))

    pub start : (at : List ℕ) → now at 0 0 ≡ deep bound ok full total [] 0
    unfolding back
    start at = let e : total - 0 ≡ total = omega arith in rw e (pick-none _)

    pub push : (at : List ℕ) (i c x : ℕ) → i < total → i < length at → c ≤ x → x < bound (take i at)
        → ok (take i at) x ≡ true → None (take i at) c x
        → now (set at i x) (i + 1) 0 ≡ now at i c
    unfolding back
    push at i c x h l k b o n =
        let m : total - i ≡ suc (total - suc i) = omega arith in
        rw (add-one, take-suc-set at i x l, take-set-le i at i x (omega arith), get_or-set_same at i x 0 l, back-set at i i x (omega arith), m)
        (sym (ap (λ (r : Option (List ℕ)). pick true r (back at i)) (here (total - suc i) (take i at) c x k b o n)
        ∙ pick_assoc (deep bound ok full (total - suc i) (take i at ++ x ∷ []) 0) (deep bound ok full (suc (total - suc i)) (take i at) (suc x)) (back at i)))

    pub dead : (at : List ℕ) (i c : ℕ) → i < total → None (take i at) c (bound (take i at)) → now at i c ≡ back at i
    unfolding deep
    dead at i c h n =
        let m : total - i ≡ suc (total - suc i) = omega arith in
        rw (m, nothing _ (take i at) c _ refl n)

    pub pop : (at : List ℕ) (i : ℕ) → 0 < i → now at (i - 1) (get_or at (i - 1) 0 + 1) ≡ back at i
    unfolding back
    pop at zero h = absurd (omega arith)
    pop at (suc i) h = let e : suc i - 1 ≡ i = omega arith in rw (add-one, e)

    pub done : (at : List ℕ) (c : ℕ) → full (take total at) ≡ true → now at total c ≡ some (take total at)
    unfolding deep
    done at c h = let e : total - total ≡ 0 = omega arith in rw (e, h)

    pub refused : (at : List ℕ) (c : ℕ) → full (take total at) ≡ false → now at total c ≡ back at total
    unfolding deep
    refused at c h = let e : total - total ≡ 0 = omega arith in rw (e, h)
