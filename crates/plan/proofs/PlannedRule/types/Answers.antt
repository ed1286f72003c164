-- `types` meets its contract: the types are the bytes themselves.
use Rattle.std.proofs.Common.{sym}
use Rattle.fields.specs.Parsed.{types-is}
use Rattle.plan.proofs.PlannedRule.types.Goals as goal

pub returns : goal.returns
returns c = λ r l. sym (types-is _ _ l.types.is).0
