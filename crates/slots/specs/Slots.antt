-- What the code over lent tables speaks of: the states of a table's slots, where a slot's label ends, and slots zeroed in a row.
-- Rests on the meaning's Layout.
use Rattle.std.specs.Prelude.{ℕ, ◌+◌, ◌-◌, ◌*◌, List, ◌++◌, map, get_or, take, drop, replicate, eqb}
use Rattle.meaning.specs.Basics.{choose}
use Rattle.meaning.specs.Layout.{Slot, free, live, state_place, length_place, atom_length, cut}

-- The state of a slot, which a node and an edge have in common: free where the first byte is zero.

unfoldable pub state_of : List ℕ → Slot (Unit {0})
state_of b = choose (eqb (get_or b state_place 0) 0) free (live tt)

abbrev pub states : ℕ → List ℕ → List (Slot (Unit {0}))
states w bs = map state_of (cut w bs)

-- where a slot's label ends, whose atoms begin at a place
abbrev pub label_end : ℕ → List ℕ → ℕ
label_end start b = start + atom_length * get_or b length_place 0

-- a table with the slots from one number up to another zeroed
abbrev pub slots_cleared : ℕ → ℕ → ℕ → List ℕ → List ℕ
slots_cleared w from to bs = take (from * w) bs ++ replicate ((to - from) * w) 0 ++ drop (to * w) bs
