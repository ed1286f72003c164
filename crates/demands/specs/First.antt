-- Our two calls meet demand 1. Rests on Ours and Undone.
use Rattle.std.specs.Prelude.{ℕ, ◌≡◌, ◌⊎◌, true, false, List, length, eqb}

-- What is refused is untouched. The report's length is looked at first: 9 where it is not 8, and no 9 where it is.

abbrev pub Told : ℕ → List ℕ → Type 0
Told n report = ((eqb (length report) 8 ≡ true) × (n ≡ 9 → ⊥)) ⊎ ((eqb (length report) 8 ≡ false) × (n ≡ 9))
