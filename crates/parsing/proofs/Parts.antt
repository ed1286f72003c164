-- Parts of an item, read one after the other, as the grammar composes them; what is read last may break. Rests on specs/Laws and
-- specs/Rows.
use mathlib.Core.Bool.{true, false}
use mathlib.Core.Option.{none}
use mathlib.Core.List.{List, [], ◌∷◌}
use Prim.Native.Nat.{ℕ}
use Rattle.std.specs.Prelude.{Result, Ok, Err}
use Rattle.text.specs.Words.{right, comma, colon, hash, minus, less, greater, dot}
use Rattle.text.specs.Integers.{Integer}
use Rattle.text.specs.Grammar.{empty_word, root_word, gives, expect, optional, digits, integer, next_integer, integers, list, a_mark, label, a_fraction, coordinate, a_position, position, a_root}
use Rattle.parsing.specs.Reading.{Reads, Breaks, Passed, Passes}
use Rattle.parsing.specs.Laws.{done, then, breaks, begins-yes, begins-no, optional-yes, optional-no}
use Rattle.parsing.specs.Rows.{row}
use Rattle.parsing.specs.Labels.{ReadsList, ReadsByte}
use Rattle.parsing.specs.declared.BrokenAt.{BrokenAt}
use Rattle.parsing.specs.declared.labelling.ListAt.{ListAt}
use Rattle.parsing.specs.declared.labelling.ByteAt.{ByteAt}

module _ (bs : List ℕ) where
  -- Integers.

  module _ {c s : ℕ} (x : Reads bs c (expect minus) s tt) where
    pub integer-minus : {r : ℕ} {ds : List ℕ} → Reads bs s digits r ds → Reads bs c integer r (record { negative = true; digits = ds })
    unfolding integer
    integer-minus y = then bs _ (optional-yes bs minus (gives true) false x (done bs _ true)) (then bs _ y (done bs _ _))

    pub minus-breaks : {b : BrokenAt} → Breaks bs s digits b → Breaks bs c integer b
    unfolding integer
    minus-breaks y = then bs _ (optional-yes bs minus (gives true) false x (done bs _ true)) (breaks bs _ y)

  module _ {c : ℕ} {a : BrokenAt} (x : Breaks bs c (expect minus) a) where
    pub integer-plain : {r : ℕ} {ds : List ℕ} → Reads bs c digits r ds → Reads bs c integer r (record { negative = false; digits = ds })
    unfolding integer
    integer-plain y = then bs _ (optional-no bs minus (gives true) false x) (then bs _ y (done bs _ _))

    pub plain-breaks : {b : BrokenAt} → Breaks bs c digits b → Breaks bs c integer b
    unfolding integer
    plain-breaks y = then bs _ (optional-no bs minus (gives true) false x) (breaks bs _ y)

  pub next-integer : {c s r : ℕ} {x : Integer} → Reads bs c (expect colon) s tt → Reads bs s integer r x → Reads bs c next_integer r x
  unfolding next_integer
  next-integer x y = then bs _ x y

  pub next-breaks : {c s : ℕ} {b : BrokenAt} → Reads bs c (expect colon) s tt → Breaks bs s integer b → Breaks bs c next_integer b
  unfolding next_integer
  next-breaks x y = then bs _ x y

  pub integers-read : {c s r : ℕ} {x : Integer} {l : List Integer} → Reads bs c integer s x → Reads bs s (row colon next_integer) r l
      → Reads bs c integers r (x ∷ l)
  unfolding integers
  integers-read x y = then bs _ x (then bs _ y (done bs _ _))

  pub integers-break : {c s : ℕ} {x : Integer} {b : BrokenAt} → Reads bs c integer s x → Breaks bs s (row colon next_integer) b
      → Breaks bs c integers b
  unfolding integers
  integers-break x y = then bs _ x (breaks bs _ y)

  pub first-breaks : {c : ℕ} {b : BrokenAt} → Breaks bs c integer b → Breaks bs c integers b
  unfolding integers
  first-breaks x = breaks bs _ x

  -- Labels.

  pub list-empty : {c s : ℕ} → Reads bs c (expect empty_word) s tt → Reads bs c list s []
  unfolding list
  list-empty x = begins-yes bs empty_word (gives []) integers x (done bs _ [])

  list-more : {c r : ℕ} {a : BrokenAt} {l : List Integer} → Breaks bs c (expect empty_word) a → Reads bs c integers r l → Reads bs c list r l
  unfolding list
  list-more x y = begins-no bs empty_word (gives []) integers x y

  list-breaks : {c : ℕ} {a b : BrokenAt} → Breaks bs c (expect empty_word) a → Breaks bs c integers b → Breaks bs c list b
  unfolding list
  list-breaks x y = begins-no bs empty_word (gives []) integers x y

  pub label-read : {c s r : ℕ} {l : List Integer} {m : ℕ} → Reads bs c list s l → Reads bs s (optional hash a_mark 0) r m
      → Reads bs c label r (record { atoms = l; mark = m })
  unfolding label
  label-read x y = then bs _ x (then bs _ y (done bs _ _))

  pub label-breaks : {c : ℕ} {b : BrokenAt} → Breaks bs c list b → Breaks bs c label b
  unfolding label
  label-breaks x = breaks bs _ x

  pub mark-breaks : {c s : ℕ} {l : List Integer} {b : BrokenAt} → Reads bs c list s l → Breaks bs s (optional hash a_mark 0) b → Breaks bs c label b
  unfolding label
  mark-breaks x y = then bs _ x (breaks bs _ y)

  pub mark-there : {c s : ℕ} → Reads bs c (expect hash) s tt → (r : Result ByteAt BrokenAt) → ReadsByte bs s a_mark r
      → ReadsByte bs c (optional hash a_mark 0) r
  mark-there x (Ok r) y = optional-yes bs hash a_mark 0 x y
  mark-there x (Err b) y = optional-yes bs hash a_mark 0 x y

  pub integers-there : {c : ℕ} {a : BrokenAt} → Breaks bs c (expect empty_word) a → (r : Result ListAt BrokenAt) → ReadsList bs c integers r
      → ReadsList bs c list r
  integers-there x (Ok r) y = (y.0, list-more x y.1, y.2)
  integers-there x (Err b) y = list-breaks x y

  pub root-read : {c s r : ℕ} → Reads bs c (expect root_word) s tt → Reads bs s (expect right) r tt → Reads bs c a_root r 1
  unfolding a_root
  root-read x y = then bs _ x (then bs _ y (done bs _ 1))

  pub root-breaks : {c : ℕ} {b : BrokenAt} → Breaks bs c (expect root_word) b → Breaks bs c a_root b
  unfolding a_root
  root-breaks x = breaks bs _ x

  pub right-breaks : {c s : ℕ} {b : BrokenAt} → Reads bs c (expect root_word) s tt → Breaks bs s (expect right) b → Breaks bs c a_root b
  unfolding a_root
  right-breaks x y = then bs _ x (breaks bs _ y)

  -- Positions.

  pub coordinate-breaks : {c : ℕ} {b : BrokenAt} → Breaks bs c integer b → Breaks bs c coordinate b
  unfolding coordinate
  coordinate-breaks x = breaks bs _ x

  module _ {c s : ℕ} {x : Integer} (i : Reads bs c integer s x) where
    pub coordinate-more : {d r : ℕ} {ds : List ℕ} → Reads bs s (expect dot) d tt → Reads bs d digits r ds → Passes bs c coordinate (Ok r)
    unfolding coordinate a_fraction
    coordinate-more y z = (_, then bs _ i (then bs _ (optional-yes bs dot a_fraction none y (then bs _ z (done bs _ _))) (done bs _ _)))

    pub fraction-breaks : {d : ℕ} {b : BrokenAt} → Reads bs s (expect dot) d tt → Breaks bs d digits b → Breaks bs c coordinate b
    unfolding coordinate a_fraction
    fraction-breaks y z = then bs _ i (breaks bs _ (optional-yes bs dot a_fraction none y (breaks bs _ z)))

    pub coordinate-plain : {b : BrokenAt} → Breaks bs s (expect dot) b → Passes bs c coordinate (Ok s)
    unfolding coordinate
    coordinate-plain y = (_, then bs _ i (then bs _ (optional-no bs dot a_fraction none y) (done bs _ _)))

  pub across-breaks : {c : ℕ} {b : BrokenAt} → Breaks bs c coordinate b → Breaks bs c a_position b
  unfolding a_position
  across-breaks x = breaks bs _ x

  module _ {c s : ℕ} (x : Passes bs c coordinate (Ok s)) where
    pub comma-breaks : {b : BrokenAt} → Breaks bs s (expect comma) b → Breaks bs c a_position b
    unfolding a_position
    comma-breaks y = then bs _ x.1 (breaks bs _ y)

    module _ {d : ℕ} (y : Reads bs s (expect comma) d tt) where
      pub down-breaks : {b : BrokenAt} → Breaks bs d coordinate b → Breaks bs c a_position b
      unfolding a_position
      down-breaks z = then bs _ x.1 (then bs _ y (breaks bs _ z))

      pub coordinates_read : {q : ℕ} → Passes bs d coordinate (Ok q) → (r : Result ℕ BrokenAt) → Passed bs q greater r → Passes bs c a_position r
      unfolding a_position
      coordinates_read z (Ok r) w = (_, then bs _ x.1 (then bs _ y (then bs _ z.1 (then bs _ w.0 (done bs _ _)))))
      coordinates_read z (Err b) w = then bs _ x.1 (then bs _ y (then bs _ z.1 (breaks bs _ w)))

  pub position-read : {c s : ℕ} → Reads bs c (expect less) s tt → (r : Result ℕ BrokenAt) → Passes bs s a_position r → Passes bs c position r
  position-read x (Ok r) y = (_, optional-yes bs less a_position none x y.1)
  position-read x (Err b) y = optional-yes bs less a_position none x y

  pub position-none : {c : ℕ} {b : BrokenAt} → Breaks bs c (expect less) b → Passes bs c position (Ok c)
  position-none x = (none, optional-no bs less a_position none x)
