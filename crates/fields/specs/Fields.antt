-- What the reader of tagged fields finds at a place. Rests on the meaning's Image.
use Rattle.std.proofs.Math.Option.{Option as Maybe, some, none}
use Rattle.std.specs.Prelude.{◌≡◌, List, ℕ, zero, suc, ◌+◌, length, drop, leb, Option, Some, None, Result, Ok, Err}
use Rattle.meaning.specs.Basics.{choose}
use Rattle.meaning.specs.Image.{field, Field as Whole}
use Rattle.fields.specs.declared.Field.{Field}
use Rattle.fields.specs.declared.CutShort.{CutShort}

-- what reading at a place finds, and its three answers
abbrev pub Found : Type 0
Found = Option (Result Field CutShort)

abbrev pub found : ℕ → ℕ → ℕ → Found
found tag start end = Some (Ok (record { tag = tag; start = start; end = end }))

abbrev pub cut_short : Found
cut_short = Some (Err (record {}))

abbrev pub nothing_left : Found
nothing_left = None

-- the field at a place, with the places where its payload starts and ends, or that it is cut short
unfoldable pub placed : ℕ → Maybe Whole → Found
placed at none = cut_short
placed at (some d) = found d.tag (at + 3) (at + 3 + length d.payload)

-- what is found at a place in the bytes
unfoldable pub field_at : List ℕ → ℕ → Found
field_at bs at = choose (leb (length bs) at) nothing_left (placed at (field (drop at bs)))

-- what is read next: `next` at the place behind a field, and what was found where that was none
unfoldable pub onward : Found → (ℕ → Found) → Found
onward (Some (Ok f)) next = next f.end
onward (Some (Err e)) next = cut_short
onward None next = nothing_left

-- the field of number n, counted from a place on
unfoldable pub nth_field : ℕ → List ℕ → ℕ → Found
nth_field zero bs at = field_at bs at
nth_field (suc n) bs at = onward (field_at bs at) (λ e. nth_field n bs e)

-- where to go on, from the place and what is found there: a field that is cut short is the last
unfoldable pub behind : List ℕ → ℕ → Found → ℕ
behind bs at (Some (Ok f)) = f.end
behind bs at (Some (Err e)) = length bs
behind bs at None = at

-- a step of the walk over the fields: from the bytes and the place, what it gives, and the bytes and the place then
pub record Gives (bs : List ℕ) (at : ℕ) (r : Found) (rest : List ℕ) (next : ℕ) : Type 0 where
  pub same : rest ≡ bs
  pub found : r ≡ field_at bs at
  pub place : next ≡ behind bs at r
