-- A text as words: a name is a run of letters, digits and underscores; every other byte that is no white space and in no comment is a
-- sign. Any bytes are words; which of them are a graph is the grammar's question. Rests on the meaning's Basics and on writing's Words.
use Rattle.std.specs.Prelude.{Bool, true, false, List, [], ◌∷◌, ◌++◌, ℕ, ◌+◌, eqb, leb}
use Rattle.meaning.specs.Basics.{choose, both, either, same}
use Rattle.writing.specs.Words.{line_feed, space, digit_zero}

pub data Word : Type 0 where
  name : List ℕ → Word
  sign : ℕ → Word

-- Bytes.

abbrev pub tab : ℕ
tab = 0x09

abbrev pub carriage_return : ℕ
carriage_return = 0x0d

abbrev pub underscore : ℕ
underscore = 0x5f

abbrev pub slash : ℕ
slash = 0x2f

abbrev pub star : ℕ
star = 0x2a

unfoldable pub within : ℕ → ℕ → ℕ → Bool
within low high b = both (leb low b) (leb b high)

unfoldable pub is_digit : ℕ → Bool
is_digit b = within digit_zero (digit_zero + 9) b

-- a digit, a capital, a small letter or an underscore
unfoldable pub is_letter : ℕ → Bool
is_letter b = either (is_digit b) (either (within 0x41 0x5a b) (either (within 0x61 0x7a b) (eqb b underscore)))

unfoldable pub is_white : ℕ → Bool
is_white b = either (eqb b space) (either (eqb b tab) (either (eqb b line_feed) (eqb b carriage_return)))

-- Reading, byte by byte: where a byte stands, the words that it ends, and where the next one stands.

pub data Mode : Type 0 where
  between : Mode
  -- behind these letters of a name
  naming : List ℕ → Mode
  -- behind a slash, which is a sign or begins a comment
  slashed : Mode
  -- in a comment that ends with its line
  aside : Mode
  -- in a comment that ends with a star and a slash; and behind a star there
  inside : Mode
  starred : Mode

-- behind a byte that stands between words
unfoldable pub begun : ℕ → Mode
begun b = choose (is_letter b) (naming (b ∷ [])) (choose (eqb b slash) slashed between)

unfoldable pub next : Mode → ℕ → Mode
next between b = begun b
next (naming run) b = choose (is_letter b) (naming (run ++ b ∷ [])) (begun b)
next slashed b = choose (eqb b slash) aside (choose (eqb b star) inside (begun b))
next aside b = choose (eqb b line_feed) between aside
next inside b = choose (eqb b star) starred inside
next starred b = choose (eqb b slash) between (choose (eqb b star) starred inside)

-- the byte is a sign
unfoldable pub is_sign : ℕ → Bool
is_sign b = choose (either (is_letter b) (either (is_white b) (eqb b slash))) false true

unfoldable pub signs : ℕ → List Word
signs b = choose (is_sign b) (sign b ∷ []) []

-- the words that end with the byte or before it
unfoldable pub told : Mode → ℕ → List Word
told between b = signs b
told (naming run) b = choose (is_letter b) [] (name run ∷ signs b)
told slashed b = choose (either (eqb b slash) (eqb b star)) [] (sign slash ∷ signs b)
told aside b = []
told inside b = []
told starred b = []

-- the words that end with the text; a comment without its end is a slash, which no graph has
unfoldable pub last : Mode → List Word
last between = []
last (naming run) = name run ∷ []
last slashed = sign slash ∷ []
last aside = []
last inside = sign slash ∷ []
last starred = sign slash ∷ []

unfoldable pub words_in : Mode → List ℕ → List Word
words_in m [] = last m
words_in m (b ∷ bs) = told m b ++ words_in (next m b) bs

abbrev pub words : List ℕ → List Word
words bs = words_in between bs

-- Words.

unfoldable pub same_word : Word → Word → Bool
same_word (name r) (name s) = same r s
same_word (name r) (sign d) = false
same_word (sign c) (name s) = false
same_word (sign c) (sign d) = eqb c d

abbrev pub opening : Word
opening = sign 0x5b

abbrev pub closing : Word
closing = sign 0x5d

abbrev pub bar : Word
bar = sign 0x7c

abbrev pub left : Word
left = sign 0x28

abbrev pub right : Word
right = sign 0x29

abbrev pub comma : Word
comma = sign 0x2c

abbrev pub colon : Word
colon = sign 0x3a

abbrev pub hash : Word
hash = sign 0x23

abbrev pub minus : Word
minus = sign 0x2d

abbrev pub less : Word
less = sign 0x3c

abbrev pub greater : Word
greater = sign 0x3e

abbrev pub dot : Word
dot = sign 0x2e
