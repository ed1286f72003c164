-- `items::test` meets its contract, tag by tag.
use Rattle.std.proofs.Common.{sym, ◌∙◌, arith}
use Rattle.fields.specs.Image.{condition-other}
use Rattle.image.proofs.Insides.{flag-long, test_unflagged, test-edge, test-degree, test-other, unrelated, test-operands}
use Rattle.image.proofs.items.test.Goals as goal

pub returns-then-not-flagged : goal.returns-then-not-flagged
returns-then-not-flagged c = test_unflagged _ _ c.flagged.ensures c.if-not-flagged.true

pub overflow_sub-n : goal.overflow_sub-n
overflow_sub-n c = flag-long _ (sym c.flagged.ensures ∙ c.if-not-flagged.false)

pub returns-in-67 : goal.returns-in-67
returns-in-67 c = test-operands _ _ c.flagged.ensures c.if-not-flagged.false c.in-67.is c.related.ensures c.if-related.true

pub returns-in-64 : goal.returns-in-64
returns-in-64 c = test-edge _ _ c.flagged.ensures c.if-not-flagged.false c.in-64.is

pub returns-in-65 : goal.returns-in-65
returns-in-65 c = test-degree _ _ c.flagged.ensures c.if-not-flagged.false (omega arith) (omega arith)

pub returns-in_default : goal.returns-in_default
returns-in_default c = unrelated _ _ c.flagged.ensures c.if-not-flagged.false c.in-67.is c.related.ensures c.if-related.false

pub returns-in_default-2 : goal.returns-in_default-2
returns-in_default-2 c = test-other _ _ c.flagged.ensures c.if-not-flagged.false (condition-other _ _ (λ h. omega arith) (λ h. omega arith) (λ h. omega arith) (λ h. omega arith))

pub returns-in_default-3 : goal.returns-in_default-3
returns-in_default-3 c = test-other _ _ c.flagged.ensures c.if-not-flagged.false (condition-other _ _ (λ h. omega arith) (λ h. omega arith) (λ h. omega arith) (λ h. omega arith))
