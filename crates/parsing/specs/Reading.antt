-- What a reader in code comes to at a place, beside what the grammar's reader comes to there. Rests on the text's Words and
-- Grammar and on lexing's Lexing.
use Rattle.std.specs.Prelude.{◌≡◌, Result, Ok, Err, List, ℕ, ◌<◌, ◌≤◌, length, drop}
use Rattle.std.proofs.Math.Seq.{slice}
use Rattle.text.specs.Words.{Word, words}
use Rattle.text.specs.Grammar.{Parsed, broke, gives, expect, a_name}
use Rattle.lexing.specs.Lexing.{name_at}
use Rattle.parsing.specs.declared.BrokenAt.{BrokenAt}
use Rattle.parsing.specs.declared.NameAt.{NameAt}

module _ (bs : List ℕ) where
  -- the words from a place on
  abbrev pub ahead : ℕ → List Word
  ahead at = words (drop at bs)

  -- at a place the grammar's reader comes to this, and the code to another place
  pub record Comes {A : Type 0} (at : ℕ) (item : List Word → Parsed A) (o : Parsed A) (to : ℕ) : Type 0 where
    pub read : item (ahead at) ≡ o
    pub onward : at ≤ to

  -- from one place to another the code reads what the grammar's reader reads, with this value
  abbrev pub Reads : {A : Type 0} → ℕ → (List Word → Parsed A) → ℕ → A → Type 0
  Reads at item to a = Comes at item (gives a (ahead to)) to

  -- the grammar's reader breaks at the words from a place on
  abbrev pub Breaks : {A : Type 0} → ℕ → (List Word → Parsed A) → BrokenAt → Type 0
  Breaks at item b = Comes at item (broke (ahead b.place)) b.place

  -- a word is passed, and then the code has moved on
  abbrev pub Passed : ℕ → Word → Result ℕ BrokenAt → Type 0
  Passed at w (Ok next) = Reads at (expect w) next tt × (at < next) × (next ≤ length bs)
  Passed at w (Err b) = Breaks at (expect w) b

  -- a name is read, and the same words are read from its first byte on; it lies between its two places
  pub record NameRead (at : ℕ) (r : NameAt) : Type 0 where
    pub reads : Reads at a_name r.next (name_at bs r.from)
    pub here : ahead at ≡ ahead r.from
    pub same : name_at bs r.from ≡ slice r.from r.next bs
    pub behind : at ≤ r.from
    pub onward : r.from < r.next
    pub within : r.next ≤ length bs

  abbrev pub ReadsName : ℕ → Result NameAt BrokenAt → Type 0
  ReadsName at (Ok r) = NameRead at r
  ReadsName at (Err b) = Breaks at a_name b

  -- something is read and dropped
  abbrev pub Passes : {A : Type 0} → ℕ → (List Word → Parsed A) → Result ℕ BrokenAt → Type 0
  Passes {A} at item (Ok next) = (a : A) × Reads at item next a
  Passes at item (Err b) = Breaks at item b
