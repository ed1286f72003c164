-- The words of a text, as lists of bytes, and the most bytes that the words of a line have. Rests on the meaning's Numbers
-- and Layout.
use Rattle.std.specs.Prelude.{List, [], ◌∷◌, ◌++◌, ℕ, zero, suc, ◌+◌, ◌-◌, ◌*◌, ◌/◌, ◌%◌, get_or, eqb, ltb}
use Prim.Native.Char.{code}
use Prim.Native.String.{String, [] as empty, ◌∷◌ as ◌before◌}
use Rattle.meaning.specs.Basics.{choose}
use Rattle.meaning.specs.Numbers.{half, whole}
use Rattle.meaning.specs.Layout.{most_atoms}

-- Bytes.

abbrev pub line_feed : ℕ
line_feed = 0x0a

abbrev pub space : ℕ
space = 0x20

abbrev pub minus : ℕ
minus = 0x2d

-- the digit 0; the others follow it
abbrev pub digit_zero : ℕ
digit_zero = 0x30

-- Words.

-- the bytes of a text
unfoldable pub letters : String → List ℕ
letters empty = []
letters (c before s) = code c ∷ letters s

-- the digits of a number that has at most so many
unfoldable pub digits : ℕ → ℕ → List ℕ
digits zero n = []
digits (suc most) n = choose (ltb n 10) ((digit_zero + n) ∷ []) (digits most (n / 10) ++ (digit_zero + n % 10) ∷ [])

unfoldable pub decimal : ℕ → List ℕ
decimal n = digits (suc n) n

-- an atom: a word from 2^31 on stands for the number that is 2^32 below it
unfoldable pub signed : ℕ → List ℕ
signed w = choose (ltb w half) (decimal w) (minus ∷ decimal (whole - w))

-- a mark of a host, in the order of their numbers
unfoldable pub mark_name : ℕ → List ℕ
mark_name m = get_or (letters "none" ∷ letters "red" ∷ letters "green" ∷ letters "blue" ∷ letters "grey" ∷ letters "dashed" ∷ []) m []

unfoldable pub root_name : ℕ → List ℕ
root_name r = choose (eqb r 0) (letters "plain") (letters "root")

-- The most bytes of a word of a line, each with the space before it.

-- the digits of a number of eight bytes
abbrev pub most_digits : ℕ
most_digits = 20

-- the digits of a number of four bytes
abbrev pub word_digits : ℕ
word_digits = 10

abbrev pub number_size : ℕ
number_size = 1 + most_digits

-- with a minus
abbrev pub atom_size : ℕ
atom_size = 2 + word_digits

abbrev pub mark_size : ℕ
mark_size = 7

abbrev pub root_size : ℕ
root_size = 6

-- the most atoms of a label, and the line's end
abbrev pub label_size : ℕ
label_size = most_atoms * atom_size + 1
