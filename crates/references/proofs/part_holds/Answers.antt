-- `part_holds` meets its contract.
use Rattle.std.proofs.Common.{◌∙◌, ap, ne_eqb}
use Rattle.std.specs.Prelude.{not}
use Rattle.references.proofs.Ties.{part-main, part-rule}
use Rattle.references.proofs.part_holds.Goals as goal

pub returns-then-tag-ne-RULE : goal.returns-then-tag-ne-RULE
returns-then-tag-ne-RULE c i e = ap not (ne_eqb _ _ c.if-tag-ne-RULE.true) ∙ part-main _ _ c.if-tag-ne-RULE.true i e

pub returns-else-tag-ne-RULE : goal.returns-else-tag-ne-RULE
returns-else-tag-ne-RULE c = part-rule _ _ _ c.if-tag-ne-RULE.false c.rule_holds.ensures
