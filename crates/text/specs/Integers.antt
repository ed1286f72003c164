-- Integers as they are written: decimal digits of any length behind an optional minus; the atoms that they stand for.
-- Rests on the meaning's Basics and Numbers, and on writing's Words.
use Rattle.std.specs.Prelude.{Bool, true, false, List, [], ◌∷◌, ℕ, ◌+◌, ◌-◌, ◌*◌, ◌%◌, leb, ltb}
use Rattle.meaning.specs.Basics.{choose}
use Rattle.meaning.specs.Numbers.{half, whole}
use Rattle.writing.specs.Words.{digit_zero, decimal}

pub record Integer : Type 0 where
  pub negative : Bool
  pub digits : List ℕ

-- an atom as it is written: a word from 2^31 on stands for the number that is 2^32 below it
unfoldable pub integer_of : ℕ → Integer
integer_of w =
    choose (ltb w half) (record { negative = false; digits = decimal w }) (record { negative = true; digits = decimal (whole - w) })

-- the number that the digits write behind a number
unfoldable pub value_from : ℕ → List ℕ → ℕ
value_from n [] = n
value_from n (d ∷ ds) = value_from (n * 10 + (d - digit_zero)) ds

abbrev pub value : List ℕ → ℕ
value ds = value_from 0 ds

-- the integer is an atom; and its word, where it is
unfoldable pub is_atom : Integer → Bool
is_atom x = choose x.negative (leb (value x.digits) half) (ltb (value x.digits) half)

unfoldable pub atom : Integer → ℕ
atom x = choose x.negative ((whole - value x.digits) % whole) (value x.digits)
