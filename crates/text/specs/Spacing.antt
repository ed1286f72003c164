-- The one spacing in which words are written: what stands between two of them is decided by the two. Each item is on a line of its own.
-- Rests on Words.
use Rattle.std.specs.Prelude.{Bool, List, [], ◌∷◌, ◌++◌, ℕ, eqb}
use Rattle.meaning.specs.Basics.{choose, either}
use Rattle.writing.specs.Words.{line_feed, space}
use Rattle.text.specs.Words.{Word, name, sign}

unfoldable pub spell : Word → List ℕ
spell (name r) = r
spell (sign c) = c ∷ []

-- nothing stands behind ( : -
unfoldable pub opens : ℕ → Bool
opens c = either (eqb c 0x28) (either (eqb c 0x3a) (eqb c 0x2d))

-- nothing stands before ) , :
unfoldable pub closes : ℕ → Bool
closes d = either (eqb d 0x29) (either (eqb d 0x2c) (eqb d 0x3a))

-- before a sign: | and ] begin a line, ( begins one with two spaces
unfoldable pub before : ℕ → List ℕ
before d =
    choose (closes d) []
    (choose (either (eqb d 0x7c) (eqb d 0x5d)) (line_feed ∷ []) (choose (eqb d 0x28) (line_feed ∷ space ∷ space ∷ []) (space ∷ [])))

-- between two words
unfoldable pub gap : Word → Word → List ℕ
gap (name r) (name s) = space ∷ []
gap (name r) (sign d) = choose (eqb d 0x28) [] (before d)
gap (sign c) (name s) = choose (opens c) [] (space ∷ [])
gap (sign c) (sign d) = choose (opens c) [] (before d)

-- the words behind a word, and a line feed
unfoldable pub onward : Word → List Word → List ℕ
onward p [] = line_feed ∷ []
onward p (w ∷ ws) = gap p w ++ spell w ++ onward w ws

unfoldable pub text : List Word → List ℕ
text [] = []
text (w ∷ ws) = spell w ++ onward w ws
