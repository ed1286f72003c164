-- The walk along rows: what it knows while it reads one, and where one ends. Rests on Form and on fields' Image.
use mathlib.Core.Path.{◌≡◌, refl, sym, ap, ◌∙◌}
use mathlib.Core.Bool.{Bool, true, false}
use mathlib.Core.List.{List}
use Rattle.std.specs.Prelude.{Option as Choice, Some, None, Result, Ok}
use Rattle.fields.specs.declared.Field.{Field}
use Rattle.fields.specs.declared.CutShort.{CutShort}
use Prim.Native.Nat.{ℕ, ◌+◌, ◌-◌, ◌<◌, ◌≤◌}
use native.Mathlib.Omega.{arith}
use native.Mathlib.Decide.{dec_lt}
use borrow.Author.Tests.{lt-ltb, ltb-true, le-leb, lt-leb}
use lib.Dec.{eqb, leb, ltb, lit<}
use lib.ListN.{length, get_or, take, drop}
use Rattle.meaning.specs.Basics.{both, is_empty, is_some}
use Rattle.meaning.specs.Image.{leading}
use Rattle.meaning.specs.Laws.Tests.{both-no, both_yes, both_true, is_some_true}
use Rattle.fields.specs.Image.{Reading, stopped, reading-start, reading-full, reading-end, reading-other, reading-cut, reading-bad, reading-next, is_some_false}
use Rattle.fields.specs.Fields.{Found, field_at}
use Rattle.fields.specs.Laws.{Lies}
use Rattle.fields.proofs.Finding.{NoField, no_field, a-field, tail_part}
use Rattle.image.specs.declared.Row.{Row}
use Rattle.image.specs.declared.Row.TheVariants.{Rules, Procedures, Variables, Left, Right, Interface, Conditions, Modes, Nodes, Edges, Tests, Elements, Operands, Sequence, Guarded, One}
use Rattle.image.specs.Form.{read, passes_of, least_of, most_of, next_of, belonging, met, behind, fits, rank}
use Rattle.image.proofs.Insides.{is-empty}

-- what was found is a field, as a match on it says: where it lies
pub lying : (bs : List ℕ) (at : ℕ) {f : Found} {x : Result Field CutShort} {g : Field} → f ≡ field_at bs at → f ≡ Some x → x ≡ Ok g → Lies bs at g.tag g.start g.end
lying bs at e p q = a-field bs at e (p ∙ ap Some q)

-- A row that is read up to a place.

pub record Along (row : Row) (bs : List ℕ) (at n : ℕ) : Type 0 where
  pub reading : Reading (passes_of row) (read row) (most_of row) bs at n

pub along_start : (row : Row) (bs : List ℕ) → Along row bs 0 0
along_start row bs = record { reading = reading-start (most_of row) bs }

module _ {row : Row} {bs : List ℕ} {at n : ℕ} (r : Along row bs at n) {more : Bool} (q : more ≡ belonging row n bs at) where
  module _ (m : more ≡ true) where
    byte : at < length bs
    unfolding belonging
    byte = ltb-true at _ (both_true (ltb at (length bs)) _ (sym q ∙ m)).0

    others : both (ltb n (most_of row)) (passes_of row (get_or bs at 0)) ≡ true
    unfolding belonging
    others = (both_true (ltb at (length bs)) _ (sym q ∙ m)).1

    space : n < most_of row
    space = ltb-true n _ (both_true (ltb n (most_of row)) _ others).0

    passes : passes_of row (get_or bs at 0) ≡ true
    passes = (both_true (ltb n (most_of row)) _ others).1

    pub turn-cut : {f : Found} → f ≡ field_at bs at → NoField f → fits row bs ≡ false
    unfolding met
    turn-cut {f} e k = ap (met (leb (least_of row)) (behind row)) (reading-cut r.reading space passes byte (no_field bs at f e k))

    module _ {tag start end : ℕ} {part : List ℕ} {ok : Bool} (l : Lies bs at tag start end) (p : part ≡ take (end - start) (drop start bs)) (o : ok ≡ is_some (read row tag part)) where
      same_item : read row l.whole.tag l.whole.payload ≡ read row tag part
      same_item = rw (l.tagged, l.payload, ← p)

      pub turn-bad : ok ≡ false → fits row bs ≡ false
      unfolding met
      turn-bad h = ap (met (leb (least_of row)) (behind row)) (reading-bad r.reading space passes l.whole l.is (same_item ∙ is_some_false _ (sym o ∙ h)))

      pub turn-next : ok ≡ true → Along row bs end (n + 1)
      turn-next h =
          let s = is_some_true (read row tag part) (sym o ∙ h) in
          record { reading = reading-next r.reading space passes l.whole end s.0 l.is l.ends (same_item ∙ s.1) }

  module _ (m : more ≡ false) where
    ends : leading (passes_of row) (read row) (most_of row) bs ≡ stopped r.reading
    unfolding belonging
    ends = go (dec_lt at (length bs)) (dec_lt n (most_of row))
      where
        go : Dec (at < length bs) → Dec (n < most_of row) → leading (passes_of row) (read row) (most_of row) bs ≡ stopped r.reading
        go (no h) k = reading-end r.reading (omega arith)
        go (yes h) (no k) = reading-full r.reading (omega (arith, r.reading.few))
        go (yes h) (yes k) = reading-other r.reading (sym (both_yes _ _ (lt-ltb at _ h) ∙ both_yes _ _ (lt-ltb n _ k)) ∙ sym q ∙ m)

    row_ends : fits row bs ≡ both (leb (least_of row) n) (behind row (drop at bs))
    unfolding met
    row_ends = ap (met (leb (least_of row)) (behind row)) ends ∙ ap (λ (k : ℕ). both (leb (least_of row) k) (behind row (drop at bs))) r.reading.counted

    module _ {least : ℕ} (k : least ≡ least_of row) where
      pub too_few : n < least → fits row bs ≡ false
      too_few h = row_ends ∙ both-no _ _ (lt-leb (least_of row) n (omega arith))

      pub enough : least ≤ n → fits row bs ≡ behind row (drop at bs)
      enough h = row_ends ∙ both_yes _ _ (le-leb (least_of row) n (omega arith))

-- Rows one behind the other.

-- what the next row says of the bytes: without one there are none
abbrev pub goes_on : Choice Row → List ℕ → Bool
goes_on None bs = is_empty bs
goes_on (Some row) bs = fits row bs

abbrev pub rank_of : Choice Row → ℕ
rank_of None = 0
rank_of (Some row) = rank row

follows : (row : Row) (bs : List ℕ) → behind row bs ≡ goes_on (next_of row) bs
unfolding behind
follows Rules bs = refl
follows Procedures bs = refl
follows Variables bs = refl
follows Left bs = refl
follows Right bs = refl
follows Interface bs = refl
follows Conditions bs = refl
follows Modes bs = refl
follows Nodes bs = refl
follows Edges bs = refl
follows Tests bs = refl
follows Elements bs = refl
follows Operands bs = refl
follows (Sequence depth) bs = refl
follows (Guarded depth) bs = refl
follows (One depth) bs = refl

falls : (row : Row) → rank_of (next_of row) < rank row
falls Rules = lit< tt
falls Procedures = lit< tt
falls Variables = lit< tt
falls Left = lit< tt
falls Right = lit< tt
falls Interface = lit< tt
falls Conditions = lit< tt
falls Modes = lit< tt
falls Nodes = lit< tt
falls Edges = lit< tt
falls Tests = lit< tt
falls Elements = lit< tt
falls Operands = lit< tt
falls (Sequence depth) = omega arith
falls (Guarded depth) = omega arith
falls (One depth) = omega arith

-- What is left: the next row, if there is one, and the bytes that it begins.

pub record Onto (first : Row) (bs : List ℕ) (next : Choice Row) (rest : List ℕ) : Type 0 where
  pub lower : rank_of next ≤ rank first
  pub same : fits first bs ≡ goes_on next rest

module _ {first : Row} {bs : List ℕ} {next : Choice Row} {rest : List ℕ} (w : Onto first bs next rest) where
  pub onto_done : next ≡ None → eqb (length rest) 0 ≡ fits first bs
  onto_done e = is-empty rest ∙ sym (w.same ∙ ap (λ (n : Choice Row). goes_on n rest) e)

  module _ {row : Row} (q : next ≡ Some row) where
    here : fits first bs ≡ fits row rest
    here = w.same ∙ ap (λ (n : Choice Row). goes_on n rest) q

    pub onto_bad : fits row rest ≡ false → false ≡ fits first bs
    onto_bad e = sym (here ∙ e)

    module _ {behind_it : Choice Row} (e : behind_it ≡ next_of row) where
      onto_less : rank_of behind_it < rank_of next
      onto_less = rw (e, q) (falls row)

      pub onto_next : (at : ℕ) → fits row rest ≡ behind row (drop at rest) → Onto first bs behind_it (take (length rest - at) (drop at rest))
      onto_next at p = record { lower = omega (arith, w.lower, onto_less); same = here ∙ p ∙ follows row (drop at rest) ∙ rw (tail_part at rest, e) }
