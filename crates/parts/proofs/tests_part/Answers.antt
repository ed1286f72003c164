-- `parts::tests_part` meets its contract.
use Rattle.std.proofs.Common.{◌∙◌, ap}
use Rattle.meaning.specs.Image.{passes_all, only, test}
use Rattle.parts.specs.Rows.{rule_parted}
use Rattle.parts.proofs.tests_part.Goals as goal

pub returns : goal.returns
returns c x e = ap (only passes_all test 4) c.nth_part.ensures ∙ (rule_parted _ x e).tests
