-- Big-endian numbers, and atoms: signed 32-bit numbers, each held as its word (the number that its four bytes write).
-- A word's height is its signed value plus 2^31: words compare, add and subtract by their heights, in natural numbers.
-- Rests on Basics.
use Rattle.std.specs.Prelude.{Bool, List, [], ◌∷◌, ℕ, zero, suc, ◌+◌, ◌-◌, ◌*◌, ◌/◌, ◌%◌, ◌^◌, length, leb, ltb}
use Rattle.std.proofs.Math.Option.{Option, some}
use Rattle.meaning.specs.Basics.{both, ensure, ◌>>◌}

-- the number that the bytes write, most significant first
unfoldable pub number : List ℕ → ℕ
number [] = 0
number (b ∷ bs) = b * 256 ^ length bs + number bs

-- a number in w bytes
unfoldable pub bytes : ℕ → ℕ → List ℕ
bytes zero n = []
bytes (suc w) n = n / 256 ^ w % 256 ∷ bytes w n

abbrev pub half : ℕ
half = 0x80000000

abbrev pub whole : ℕ
whole = 0x100000000

-- a word's signed value plus 2^31; and back, by the same step
unfoldable pub height : ℕ → ℕ
height w = (w + half) % whole

unfoldable pub less : ℕ → ℕ → Bool
less a b = ltb (height a) (height b)

-- the sum and the difference of two atoms, where they are atoms
unfoldable pub sum : ℕ → ℕ → Option ℕ
sum a b = do
  ensure (both (leb half (height a + height b)) (ltb (height a + height b) (whole + half)))
  some (height (height a + height b - half))

unfoldable pub difference : ℕ → ℕ → Option ℕ
difference a b = do
  ensure (both (leb (height b) (height a + half)) (ltb (height a) (height b + half)))
  some (height (height a + half - height b))
