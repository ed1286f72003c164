-- Where a text breaks: the place, line and column of the first word that no graph goes on with. Rests on Words and Grammar.
use Rattle.std.specs.Prelude.{List, [], ◌∷◌, ◌++◌, ℕ, suc, ◌+◌, ◌-◌, length, get_or, take, eqb}
use Rattle.meaning.specs.Basics.{choose, either}
use Rattle.writing.specs.Words.{line_feed}
use Rattle.text.specs.Words.{Mode, between, naming, slashed, aside, inside, starred, is_letter, is_sign, slash, star, next, words}
use Rattle.text.specs.Grammar.{Parsed, got, broke, Listed, graph}

-- The places where words begin, as the bytes are read: `s` is where the word or the comment began that the mode is in, `i` the place of
-- the byte.

-- where the word or the comment began that the mode behind the byte is in
unfoldable pub started : Mode → ℕ → ℕ → ℕ → ℕ
started between s i b = i
started (naming run) s i b = choose (is_letter b) s i
started slashed s i b = choose (either (eqb b slash) (eqb b star)) s i
started aside s i b = s
started inside s i b = s
started starred s i b = s

unfoldable pub sign_starts : ℕ → ℕ → List ℕ
sign_starts i b = choose (is_sign b) (i ∷ []) []

-- the beginnings of the words that end with the byte or before it
unfoldable pub told_starts : Mode → ℕ → ℕ → ℕ → List ℕ
told_starts between s i b = sign_starts i b
told_starts (naming run) s i b = choose (is_letter b) [] (s ∷ sign_starts i b)
told_starts slashed s i b = choose (either (eqb b slash) (eqb b star)) [] (s ∷ sign_starts i b)
told_starts aside s i b = []
told_starts inside s i b = []
told_starts starred s i b = []

-- and of those that end with the text
unfoldable pub last_starts : Mode → ℕ → List ℕ
last_starts between s = []
last_starts (naming run) s = s ∷ []
last_starts slashed s = s ∷ []
last_starts aside s = []
last_starts inside s = s ∷ []
last_starts starred s = s ∷ []

unfoldable pub starts_in : Mode → ℕ → ℕ → List ℕ → List ℕ
starts_in m s i [] = last_starts m s
starts_in m s i (b ∷ bs) = told_starts m s i b ++ starts_in (next m b) (started m s i b) (suc i) bs

abbrev pub starts : List ℕ → List ℕ
starts bs = starts_in between 0 0 bs

-- where the text breaks, by how its words were read; at its end where words are missing
unfoldable pub break_of : List ℕ → Parsed Listed → ℕ
break_of bs (got r) = length bs
break_of bs (broke ws) = get_or (starts bs) (length (words bs) - length ws) (length bs)

abbrev pub break_place : List ℕ → ℕ
break_place bs = break_of bs (graph (words bs))

-- Lines and columns of a place count from 1, columns in bytes.

-- line feeds in the bytes
unfoldable pub feeds : List ℕ → ℕ
feeds [] = 0
feeds (b ∷ bs) = choose (eqb b line_feed) (suc (feeds bs)) (feeds bs)

-- bytes behind the last line feed, behind so many
unfoldable pub behind_feed : ℕ → List ℕ → ℕ
behind_feed n [] = n
behind_feed n (b ∷ bs) = choose (eqb b line_feed) (behind_feed 0 bs) (behind_feed (suc n) bs)

abbrev pub line_of : List ℕ → ℕ → ℕ
line_of bs place = 1 + feeds (take place bs)

abbrev pub column_of : List ℕ → ℕ → ℕ
column_of bs place = 1 + behind_feed 0 (take place bs)
