-- Lines: one space parts words, and each line ends in a line feed. Rests on Words.
use Rattle.std.specs.Prelude.{List, [], ◌∷◌, ◌++◌, ℕ}
use Rattle.writing.specs.Words.{line_feed, space}

-- what stands behind the first word of a line, by the other words
unfoldable pub onward : List (List ℕ) → List ℕ
onward [] = line_feed ∷ []
onward (w ∷ ws) = space ∷ w ++ onward ws

-- a line, by its first word and the others
abbrev pub line : List ℕ → List (List ℕ) → List ℕ
line first others = first ++ onward others
