-- Integers without bound, and atoms, which name them. An atom is a natural number: one below 2^32 names the signed value of its
-- 32-bit word, as in document 01, and the others name the integers beyond, 2^31, -2^31 - 1, 2^31 + 1, .. in turn. Each integer has
-- exactly one name (`atom-named`, `named-atom`), so that a list of atoms is a list of integers, and equal atoms are equal integers.
-- Below them: a sum, a difference or an order of words, where document 01 has one, is that of the integers.
-- Rests on the meaning's Numbers and on their laws.
use Rattle.std.specs.Prelude.{ℕ, suc, ◌+◌, ◌-◌, ◌*◌, ◌/◌, ◌%◌, eqb, ltb, ℤ, pos, negsuc}
use Rattle.meaning.specs.Basics.{choose}
use Rattle.meaning.specs.Numbers.{half, whole}
use Rattle.laws.specs.Numbers.{value}

-- the integers beyond 32 bits, in turn
unfoldable pub beyond : ℕ → ℤ
beyond k = choose (eqb (k % 2) 0) (pos (half + k / 2)) (negsuc (half + k / 2))

-- the integer that an atom names
unfoldable pub named : ℕ → ℤ
named n = choose (ltb n whole) (value n) (beyond (n - whole))

-- the atom that names an integer
unfoldable pub atom : ℤ → ℕ
atom (pos p) = choose (ltb p half) p (whole + 2 * (p - half))
atom (negsuc q) = choose (ltb q half) (whole - suc q) (whole + 2 * (q - half) + 1)
