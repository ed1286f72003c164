-- `first_element` meets its contract.
use Rattle.std.proofs.Common.{sym, ap, ◌∙◌, refl, Some}
use Rattle.parts.specs.Walks.{lies-between, begins, begins-not}
use Rattle.parts.proofs.elements.first_element.Goals as goal

pub returns-in_default : goal.returns-in_default
returns-in_default c = begins-not _ _ c.read_field.ensures (λ tag start end e. cc)

pub returns-in_default-2 : goal.returns-in_default-2
returns-in_default-2 c = begins-not _ _ c.read_field.ensures (λ tag start end e. cc)

pub slice_bounds-read_element-count : goal.slice_bounds-read_element-count
slice_bounds-read_element-count c = (lies-between _ _ _ _ (sym (c.in-Some-Ok.is ∙ ap Some c.in-Some-Ok.field-0-is) ∙ c.read_field.ensures)).0

pub slice_bounds-read_element-start : goal.slice_bounds-read_element-start
slice_bounds-read_element-start c = (lies-between _ _ _ _ (sym (c.in-Some-Ok.is ∙ ap Some c.in-Some-Ok.field-0-is) ∙ c.read_field.ensures)).0

pub slice_bounds-read_element-end : goal.slice_bounds-read_element-end
slice_bounds-read_element-end c = (lies-between _ _ _ _ (sym (c.in-Some-Ok.is ∙ ap Some c.in-Some-Ok.field-0-is) ∙ c.read_field.ensures)).1

pub returns : goal.returns
returns c = begins _ _ _ _ (sym (c.in-Some-Ok.is ∙ ap Some c.in-Some-Ok.field-0-is) ∙ c.read_field.ensures) _ refl _ c.read_element.ensures
