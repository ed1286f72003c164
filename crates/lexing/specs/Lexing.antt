-- What the code finds at a place of a text: the contracts of the lexer. Rests on the text's Words.
use Rattle.std.specs.Prelude.{◌≡◌, Option, None, Some, List, [], ◌∷◌, ℕ, ◌<◌, ◌≤◌, length, drop}
use Rattle.std.proofs.Math.Seq.{slice}
use Rattle.meaning.specs.Basics.{choose}
use Rattle.text.specs.Words.{name, sign, is_letter, slash, aside, inside, words_in, words}
use Rattle.lexing.specs.declared.Token.{Token}
use Rattle.lexing.specs.declared.Token.TheVariants.{Sign, Name}
use Rattle.lexing.specs.declared.Slash.{Slash}
use Rattle.lexing.specs.declared.Slash.TheVariants.{Comment, Alone}

-- the letters at the front
unfoldable pub run : List ℕ → List ℕ
run [] = []
run (b ∷ bs) = choose (is_letter b) (b ∷ run bs) []

-- the first of some letters, where there is one
abbrev pub first : List ℕ → Option ℕ
first [] = None
first (b ∷ bs) = Some b

-- the name at a place
abbrev pub name_at : List ℕ → ℕ → List ℕ
name_at bs at = run (drop at bs)

-- the name that begins at a place ends at another
pub record NameEnd (bs : List ℕ) (from to : ℕ) : Type 0 where
  pub said : words (drop from bs) ≡ name (slice from to bs) ∷ words (drop to bs)
  pub same : name_at bs from ≡ slice from to bs
  pub onward : from < to
  pub within : to ≤ length bs

-- a comment that ends with its line ends before a place
pub record LineEnd (bs : List ℕ) (from to : ℕ) : Type 0 where
  pub said : words_in aside (drop from bs) ≡ words (drop to bs)
  pub onward : from ≤ to
  pub within : to ≤ length bs

-- a comment that ends with a star and a slash ends before a place, or with the text, which makes a slash of it
abbrev pub CommentEnd : List ℕ → ℕ → Slash → Type 0
CommentEnd bs from (Comment to) = (words_in inside (drop from bs) ≡ words (drop to bs)) × (from < to) × (to ≤ length bs)
CommentEnd bs from (Alone to) = (words_in inside (drop from bs) ≡ sign slash ∷ words (drop to bs)) × (from ≤ to) × (to ≤ length bs)

-- a slash at a place begins a comment that ends before another, or is a word
abbrev pub AtSlash : List ℕ → ℕ → Slash → Type 0
AtSlash bs at (Comment to) = (words (drop at bs) ≡ words (drop to bs)) × (at < to) × (to ≤ length bs)
AtSlash bs at (Alone to) = (words (drop at bs) ≡ sign slash ∷ words (drop to bs)) × (at < to) × (to ≤ length bs)

-- the next word from a place on, or none
abbrev pub Next : List ℕ → ℕ → Option Token → Type 0
Next bs at None = words (drop at bs) ≡ []
Next bs at (Some (Sign c next)) = (words (drop at bs) ≡ sign c ∷ words (drop next bs)) × (at < next) × (next ≤ length bs)
Next bs at (Some (Name from to)) =
    (words (drop at bs) ≡ words (drop from bs))
    × (words (drop from bs) ≡ name (slice from to bs) ∷ words (drop to bs))
    × (name_at bs from ≡ slice from to bs)
    × (at ≤ from)
    × (from < to)
    × (to ≤ length bs)
