-- `nth_tag` meets its contract.
use Rattle.std.proofs.Common.{◌∙◌, sym, ap, Some}
use Rattle.parts.specs.Series.{tag-field, tag-end}
use Rattle.parts.proofs.Loops.{no-tag}
use Rattle.parts.proofs.nth_tag.Goals as goal

pub returns-in_default : goal.returns-in_default
returns-in_default c = no-tag _ _ c.nth_field.ensures (λ tag start end e. cc)

pub returns-in_default-2 : goal.returns-in_default-2
returns-in_default-2 c = sym (tag-end _ (sym c.nth_field.ensures ∙ c.in_default.is))

pub returns : goal.returns
returns c = sym (tag-field _ _ _ _ (sym c.nth_field.ensures ∙ c.in-Some-Ok.is ∙ ap Some c.in-Some-Ok.field-0-is))
