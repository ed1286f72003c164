-- `variable_of` meets its contract: tag 0x31 alone is a variable's, and its payload is one byte.
use Rattle.std.proofs.Common.{◌∙◌, ap, Some}
use Rattle.planning.proofs.Variables.{variable-yes, variable-no}
use Rattle.planning.proofs.variable_of.Goals as goal

pub returns-then-tag-eq-VARIABLE : goal.returns-then-tag-eq-VARIABLE
returns-then-tag-eq-VARIABLE c = λ e q. ap Some c.number_at.ensures.0 ∙ variable-yes _ _ e q c.if-tag-eq-VARIABLE.true

pub returns-else-tag-eq-VARIABLE : goal.returns-else-tag-eq-VARIABLE
returns-else-tag-eq-VARIABLE c = λ e q. variable-no _ _ e q c.if-tag-eq-VARIABLE.false
