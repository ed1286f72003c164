-- `nth_part` meets its contract.
use Rattle.std.proofs.Common.{◌∙◌, sym, ap, Some}
use Rattle.parts.specs.Series.{part_field}
use Rattle.parts.proofs.Loops.{no_part, nth_in}
use Rattle.parts.proofs.nth_part.Goals as goal
use Rattle.parts.proofs.nth_part.Goals.{in_default-via-in-Some+in_default, in_default-via-in_default}

pub returns-in_default : goal.returns-in_default
returns-in_default c = elim c.in_default.branch [ in_default-via-in-Some+in_default w ↦ no_part _ _ _ c.nth_field.ensures (λ tag start end e. cc) | in_default-via-in_default w ↦ no_part _ _ _ c.nth_field.ensures (λ tag start end e. cc) ]

pub slice_bounds-result-count : goal.slice_bounds-result-count
slice_bounds-result-count c = (nth_in _ _ c.nth_field.ensures (c.in-Some-Ok.is ∙ ap Some c.in-Some-Ok.field-0-is)).0

pub slice_bounds-result-start : goal.slice_bounds-result-start
slice_bounds-result-start c = (nth_in _ _ c.nth_field.ensures (c.in-Some-Ok.is ∙ ap Some c.in-Some-Ok.field-0-is)).0

pub slice_bounds-result-end-2 : goal.slice_bounds-result-end-2
slice_bounds-result-end-2 c = (nth_in _ _ c.nth_field.ensures (c.in-Some-Ok.is ∙ ap Some c.in-Some-Ok.field-0-is)).1

pub returns : goal.returns
returns c = sym (part_field _ _ _ _ _ (sym c.nth_field.ensures ∙ c.in-Some-Ok.is ∙ ap Some c.in-Some-Ok.field-0-is))
