-- What a reader found, as a loop over fields takes it. Rests on Fields and Laws.
use Rattle.std.specs.Prelude.{Result, Some, None, Ok, Err}
use Rattle.std.specs.Borrow.{Bor}
use Rattle.std.proofs.Common.{ap}
use mathlib.Core.Path.{◌≡◌, refl, sym, ◌∙◌}
use mathlib.Core.Option.{none}
use mathlib.Core.List.{List}
use Prim.Native.Nat.{ℕ, ◌-◌, ◌<◌, ◌≤◌}
use native.Mathlib.Omega.{arith}
use lib.ListN.{length, take, drop, length-drop}
use lib.Seq.{take_all}
use Rattle.meaning.specs.Image.{field}
use Rattle.fields.specs.declared.Field.{Field}
use Rattle.fields.specs.declared.CutShort.{CutShort}
use Rattle.fields.specs.declared.Fields.{Fields}
use Rattle.fields.specs.Fields.{Found, found, field_at, behind, Gives}
use Rattle.fields.specs.Laws.{Lies, found-field, found-end, found-cut, short_none, end_none}

-- what was found is no field
abbrev pub NoField : Found → Type 0
NoField f = (tag start end : ℕ) → f ≡ found tag start end → ⊥

pub no_field : (bs : List ℕ) (at : ℕ) (f : Found) → f ≡ field_at bs at → NoField f → field (drop at bs) ≡ none
no_field bs at (Some (Ok f)) e k = absurd (k f.tag f.start f.end refl)
no_field bs at (Some (Err f)) e k = short_none bs at e
no_field bs at None e k = end_none bs at e

-- it is a field: where it lies, and that it brings the reader on
pub a-field : (bs : List ℕ) (at : ℕ) {tag start end : ℕ} {f : Found} → f ≡ field_at bs at → f ≡ found tag start end → Lies bs at tag start end
a-field bs at {tag} {start} {end} e g = found-field bs at tag start end (sym g ∙ e)

pub part_in : {bs : List ℕ} {at tag start end : ℕ} → Lies bs at tag start end → (start ≤ end) × (end ≤ length bs)
part_in l = (omega (arith, l.starts, l.ends), l.inside)

pub nearer : {bs : List ℕ} {at tag start end : ℕ} → Lies bs at tag start end → length bs - end < length bs - at
nearer l = omega (arith, l.starts, l.ends, l.inside)

-- what was found brings the reader on
module _ (bs : List ℕ) (at : ℕ) {f : Found} (e : f ≡ field_at bs at) where
  pub nearer-field : {g : Field} → f ≡ Some (Ok g) → length bs - g.end < length bs - at
  nearer-field g = nearer (a-field bs at e g)

  pub nearer-cut : {x : CutShort} → f ≡ Some (Err x) → length bs - length bs < length bs - at
  nearer-cut g = let h = found-cut bs at (sym g ∙ e) in omega arith

-- A loop over the fields of `bs`: `was` and `at` are the iterator's bytes and place, `rest` and `next` those behind what it gives.

-- it begins at their start
pub starts : {b : Bor (List ℕ)} {x y : Fields} → x ≡ y → (y.bytes ≡ b) × (y.place ≡ 0) → (x.bytes.now ≡ b.now) × (x.place ≡ 0)
starts e f = (ap (λ (x : Fields). x.bytes.now) e ∙ ap (λ (b : Bor (List ℕ)). b.now) f.0, ap (λ (x : Fields). x.place) e ∙ f.1)

-- the field that it gives lies at the place, and it goes on behind it
pub record Stepped (bs : List ℕ) (at : ℕ) (f : Field) (rest : List ℕ) (next : ℕ) : Type 0 where
  pub inside : at < length bs
  pub lies : Lies bs at f.tag f.start f.end
  pub part : (f.start ≤ f.end) × (f.end ≤ length bs)
  pub same : rest ≡ bs
  pub place : next ≡ f.end

module _ {bs was rest : List ℕ} {at next : ℕ} (s : was ≡ bs) where
  pub gives-field : {x : Result Field CutShort} {f : Field} → Gives was at (Some x) rest next → x ≡ Ok f → Stepped bs at f rest next
  unfolding behind
  gives-field {x} {f} g e =
      let l = found-field bs at f.tag f.start f.end (rw (e, s) at g.found) in
      record {
        inside = omega (arith, l.starts, l.ends, l.inside);
        lies = l;
        part = part_in l;
        same = g.same ∙ s;
        place = rw e at g.place;
      }

  -- one that is cut short: none is there
  pub gives-cut : {x : Result Field CutShort} {e : CutShort} → Gives was at (Some x) rest next → x ≡ Err e → (at < length bs) × (field (drop at bs) ≡ none)
  gives-cut g e = let h = rw (e, s) at g.found in (found-cut bs at h, short_none bs at h)

  -- nothing: the bytes end
  pub gives-end : Gives was at None rest next → length bs ≤ at
  gives-end g = found-end bs at (rw s at g.found)

-- the bytes from a place on
pub tail_part : (n : ℕ) (bs : List ℕ) → take (length bs - n) (drop n bs) ≡ drop n bs
tail_part n bs = take_all (length bs - n) (drop n bs) (rw (length-drop n bs) (omega arith))
