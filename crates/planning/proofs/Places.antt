-- The parts of a rule, read one behind the other: each is the field of its number. Rests on parts' Rows and plan's Places.
use mathlib.Core.Path.{◌≡◌, refl, sym, ◌∙◌, ap}
use mathlib.Core.Option.{some}
use mathlib.Core.List.{List, []}
use Prim.Native.Nat.{ℕ, suc, ◌-◌, ◌<◌}
use lib.Dec.{eqb}
use lib.ListN.{get_or, take, drop}
use Rattle.meaning.specs.Image.{Rule, rule}
use Rattle.fields.specs.Fields.{field_at, found, nth_field}
use Rattle.fields.specs.Laws.{nth-next}
use Rattle.fields.specs.declared.Field.{Field}
use Rattle.fields.specs.declared.CutShort.{CutShort}
use Rattle.std.specs.Prelude.{Option as Maybe, Some, None, IsSome, Result, Ok, Err}
use Rattle.std.proofs.Common.{rules}
use Rattle.std.specs.Result.{result_ok}
use Rattle.parts.specs.Rows.{rule_parted, preserving-is}
use Rattle.parts.proofs.Loops.{no_part}
use Rattle.plan.specs.Plan.{Part}
use Rattle.plan.specs.Places.{place-there}
use Rattle.planning.specs.Planning.{NumberAt, Lying, FieldAt, PartsLie, PartsOf, ModeAt}
use Rattle.planning.specs.declared.Parts.{Parts}

-- what is read at a place, unless it is cut short
pub lies-ok : (bs : List ℕ) (at : ℕ) (x : Result Field CutShort) → Some x ≡ field_at bs at → FieldAt bs at (result_ok x)
lies-ok bs at (Ok f) e = sym e
lies-ok bs at (Err x) e = λ tag start end g. let z : Some (Err x) ≡ found tag start end = e ∙ g in cc

-- a field lies where it was read, whatever its number
pub field-lies : (bs : List ℕ) (at : ℕ) {f : Field} → FieldAt bs at (Some f) → Lying bs at f.start f.end
field-lies bs at g = record { part = λ n q. place-there bs n (sym q) g; next = λ n tag start end q h. nth-next n bs 0 (q ∙ g) }

-- the first field begins at the start, and the next behind one
pub number-first : (bs : List ℕ) → NumberAt bs 0 0
unfolding nth_field
number-first bs = refl

module _ (bs : List ℕ) (n at : ℕ) (q : NumberAt bs n at) where
  pub number-next : {f : Field} → FieldAt bs at (Some f) → NumberAt bs (suc n) f.end
  number-next g = nth-next n bs 0 (q ∙ g)

  -- its part lies in the bytes
  pub number-part : {f : Field} → FieldAt bs at (Some f) → Part bs n f.start f.end
  number-part g = (field-lies bs at g).part n q

  -- the first five parts of a rule are there
  pub number-there : {r : Rule} → rule bs ≡ some r → n < 5 → FieldAt bs at None → ⊥
  number-there {r} e h k = let t = (rule_parted bs r e).there n h in k t.0 t.1 t.2 (sym q ∙ t.3)

-- the parts of a rule are there
module _ (bs : List ℕ) where
  pub parts-there : {r : Rule} → rule bs ≡ some r → (o : Maybe Parts) → PartsOf bs o → IsSome o
  parts-there e (Some p) h = search rules
  parts-there {r} e None h = absurd (h r e)

  pub parts-are : {o : Maybe Parts} {p : Parts} → o ≡ Some p → PartsOf bs o → PartsLie bs p
  parts-are e h = rw e at h

-- the mode, which may be missing
module _ (bs : List ℕ) (at : ℕ) where
  pub mode-read : {f : Field} {mode : ℕ} → FieldAt bs at (Some f) → mode ≡ get_or (take (f.end - f.start) (drop f.start bs)) 0 0 → ModeAt bs at mode
  mode-read {mode = mode} g m r e q = sym (preserving-is bs _ (eqb mode 1) (number-part bs 5 at q g).is (ap (λ (n : ℕ). eqb n 1) m) r e)

  pub mode-none : FieldAt bs at None → ModeAt bs at 0
  mode-none k r e q = sym (preserving-is bs [] (eqb 0 1) (no_part bs _ _ refl (λ tag start end g. k tag start end (sym q ∙ g))) refl r e)
