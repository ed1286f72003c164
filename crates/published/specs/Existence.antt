-- Every match has a result: integers have no bound, so that every sum and difference has a value and every label an instance. A
-- rule set therefore fails exactly where none of its rules has a match (`set-fails-exactly`). The result has the nodes and edges
-- of D under even names, and those of R under odd ones; OneResult says that every other is isomorphic to it.
-- Rests on RuleApplication, OneResult and Endings.
use Rattle.std.specs.Prelude.{ℕ, ◌+◌, ◌*◌, ◌/◌, ◌%◌, eqb}
use Rattle.meaning.specs.Basics.{choose}

-- Even and odd names.

unfoldable pub split : {A : Type 0} → (ℕ → A) → (ℕ → A) → ℕ → A
split f h z = choose (eqb (z % 2) 0) (f (z / 2)) (h (z / 2))

abbrev pub keep : ℕ → ℕ
keep v = 2 * v

abbrev pub new : ℕ → ℕ
new j = 2 * j + 1
