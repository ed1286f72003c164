-- `is_digit` meets its contract.
use Rattle.std.proofs.Common.{◌∙◌}
use Rattle.lexing.proofs.Bytes.{digit-ascii}
use Rattle.lexing.proofs.is_digit.Goals as goal

pub returns : goal.returns
returns c = c.is_ascii_digit.ensures.value ∙ digit-ascii c.args.b
