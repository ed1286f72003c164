-- `shape` meets its contract. The loop's invariant: the elements passed are counted, and the rest spells the others.
-- The measure is the rest's length.
use Rattle.std.proofs.Common.{List, ◌≡◌, ◌+◌, ◌≤◌, length}
use mathlib.Core.Option.{some}
use Rattle.meaning.specs.declared.Element.{Element}
use Rattle.meaning.specs.Image.{Rule, label}
use Rattle.parts.specs.Walks.{Counting}
use Rattle.parts.proofs.elements.shape.Given as goal

abbrev pub invariant-loop-e : goal.invariant-loop-e
invariant-loop-e here = (here.lists ≤ here.elements) × (here.elements + length here.rest ≤ length here.p) × ((x : Rule) → x.variables ≡ here.types → (l : List Element) → label here.p ≡ some l → Counting x l here.rest here.elements here.lists)

abbrev pub decreases-loop-e : goal.decreases-loop-e
decreases-loop-e l = length l.rest
