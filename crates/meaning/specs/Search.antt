-- A search for the first list of slots in document 01's order, level by level, over any test of a slot behind a prefix.
-- Rests on the libraries alone.
use Rattle.std.specs.Prelude.{ℕ, zero, suc, ◌-◌, ◌<◌, ◌≡◌, Bool, true, false, List, [], ◌∷◌, ◌++◌}
use Rattle.std.proofs.Math.Option.{Option, some, none}

-- where the test holds, `here` if it is found; else what is found later
abbrev pub pick : Bool → Option (List ℕ) → Option (List ℕ) → Option (List ℕ)
pick true (some p) later = some p
pick true none later = later
pick false here later = later

abbrev pub found_if : Bool → List ℕ → Option (List ℕ)
found_if true p = some p
found_if false p = none

-- bound: how many candidates there are behind a prefix; ok: a candidate fits behind it; full: the whole is a match
module _ (bound : List ℕ → ℕ) (ok : List ℕ → ℕ → Bool) (full : List ℕ → Bool) where
  -- the first of the n slots from c on, behind the prefix p, below which f finds something
  unfoldable pub scan : (List ℕ → Option (List ℕ)) → List ℕ → ℕ → ℕ → Option (List ℕ)
  scan f p c zero = none
  scan f p c (suc n) =
      let later = scan f p (suc c) n in
      let here = f (p ++ c ∷ []) in
      pick (ok p c) here later

  -- the first placement of m more slots behind the prefix p, whose next slot is at least c
  unfoldable pub deep : ℕ → List ℕ → ℕ → Option (List ℕ)
  deep zero p c = found_if (full p) p
  deep (suc m) p c = scan (λ q. deep m q 0) p c (bound p - c)

  -- q goes on behind the prefix p: each slot is below its level's bound and fits, and the whole is full
  abbrev pub Ext : List ℕ → List ℕ → Type 0
  Ext p [] = full p ≡ true
  Ext p (c ∷ q) = (c < bound p) × (ok p c ≡ true) × Ext (p ++ c ∷ []) q
