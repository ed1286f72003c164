-- The limit of elements in a rule's label: a label that is read with one limit, and has no more elements than another, is read the same
-- with that. So what images held before the limit was raised they hold now. Rests on Written, and on laws of fields and parts.
use Rattle.std.specs.Prelude.{◌≡◌, List, ℕ, ◌≤◌, length}
use Rattle.std.proofs.Math.Option.{some}
use Rattle.std.proofs.Common.{arith}
use Rattle.meaning.specs.Image.{limits, only, passes_all, element, label}
use Rattle.fields.specs.Parsed.{only-few}
use Rattle.parts.specs.Series.{only-series}
use Rattle.meaning.specs.declared.Element.{Element}
use Rattle.renewing.specs.Written.{series-only}

module _ (n n' : ℕ) (bs : List ℕ) (l : List Element) (e : only passes_all element n bs ≡ some l) where
  -- what has at most so many elements is read the same with that limit
  pub label_same : length l ≤ n' → only passes_all element n' bs ≡ some l
  label_same h = series-only element l n' bs h (only-series passes_all element element (λ tag q a p r. r) n bs l e)

  -- so is all that is read, with a higher one
  pub label_higher : n ≤ n' → only passes_all element n' bs ≡ some l
  label_higher h = label_same (omega (arith, only-few passes_all element n bs l e))

-- with the limit that there is now
pub label_kept : (n : ℕ) → n ≤ limits.elements → (bs : List ℕ) (l : List Element) → only passes_all element n bs ≡ some l
    → label bs ≡ some l
unfolding label
label_kept n h bs l e = label_higher n limits.elements bs l e h
