-- One turn of a loop over fields: what the reader found, as the laws of rows take it. Rests on fields' Finding and on Series.
use mathlib.Core.Path.{◌≡◌, refl, sym, ◌∙◌}
use mathlib.Core.List.{List, []}
use Prim.Native.Nat.{ℕ, ◌≤◌}
use lib.ListN.{length}
use Rattle.std.specs.Prelude.{Some, None, Ok, Err}
use Rattle.fields.specs.Fields.{Found, found, nth_field}
pub use Rattle.fields.proofs.Finding.{NoField, no_field, a-field, part_in, nearer, starts, gives-field, gives-cut, gives-end, tail_part}
use Rattle.parts.specs.Series.{part_of, tag_of, part-short, part_end, tag-short, tag-end, nth_inside}

pub no_part : (bs : List ℕ) (f g : Found) → f ≡ g → NoField f → [] ≡ part_of bs g
no_part bs (Some (Ok f)) g e k = absurd (k f.tag f.start f.end refl)
no_part bs (Some (Err x)) g e k = sym (part-short bs g (sym e))
no_part bs None g e k = sym (part_end bs g (sym e))

pub no-tag : (f g : Found) → f ≡ g → NoField f → 0 ≡ tag_of g
no-tag (Some (Ok f)) g e k = absurd (k f.tag f.start f.end refl)
no-tag (Some (Err x)) g e k = sym (tag-short g (sym e))
no-tag None g e k = sym (tag-end g (sym e))

pub nth_in : (bs : List ℕ) (n : ℕ) {tag start end : ℕ} {f : Found} → f ≡ nth_field n bs 0 → f ≡ found tag start end → (start ≤ end) × (end ≤ length bs)
nth_in bs n {tag} {start} {end} e g = nth_inside bs n 0 tag start end (sym g ∙ e)
