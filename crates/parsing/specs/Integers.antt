-- What the code keeps of digits and integers. Rests on Reading and on the text's Integers.
use Rattle.std.specs.Prelude.{◌≡◌, Bool, true, false, Option, Some, None, Result, Ok, Err, List, ℕ, ◌-◌, ◌%◌, ◌<◌, ◌≤◌, leb, ltb}
use Rattle.meaning.specs.Basics.{choose}
use Rattle.meaning.specs.Numbers.{half, whole}
use Rattle.text.specs.Integers.{Integer, value, is_atom, atom}
use Rattle.text.specs.Grammar.{digits, integer}
use Rattle.parsing.specs.Reading.{Reads, Breaks}
use Rattle.parsing.specs.declared.BrokenAt.{BrokenAt}
use Rattle.parsing.specs.declared.integers.DigitsAt.{DigitsAt}
use Rattle.parsing.specs.declared.integers.IntegerAt.{IntegerAt}

-- the number, or one over 2^32 where it is over 2^32
pub record Capped (n r : ℕ) : Type 0 where
  pub exact : r ≤ whole → n ≡ r
  pub over : whole < r → whole < n

abbrev pub ReadsDigits : List ℕ → ℕ → Result DigitsAt BrokenAt → Type 0
ReadsDigits bs at (Ok r) = (written : List ℕ) × Reads bs at digits r.next written × Capped (value written) r.number
ReadsDigits bs at (Err b) = Breaks bs at digits b

-- a number is an atom behind a sign
abbrev pub fits : Bool → ℕ → Bool
fits negative n = choose negative (leb n half) (ltb n half)

-- the atom that a number is behind a sign, where it is one
abbrev pub Held : ℕ → Bool → Option ℕ → Type 0
Held n negative (Some w) = (fits negative n ≡ true) × (choose negative ((whole - n) % whole) n ≡ w)
Held n negative None = fits negative n ≡ false

-- the integer is an atom, and this is its word; or it is none
abbrev pub Atom : Integer → Option ℕ → Type 0
Atom x (Some w) = (is_atom x ≡ true) × (atom x ≡ w)
Atom x None = is_atom x ≡ false

abbrev pub ReadsInteger : List ℕ → ℕ → Result IntegerAt BrokenAt → Type 0
ReadsInteger bs at (Ok r) = (written : Integer) × Reads bs at integer r.next written × Atom written r.word
ReadsInteger bs at (Err b) = Breaks bs at integer b
