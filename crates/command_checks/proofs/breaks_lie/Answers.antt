-- `breaks_lie` meets its contract.
use Rattle.std.proofs.Common.{◌∙◌}
use Rattle.command_checks.proofs.Demands.{placement-is}
use Rattle.command_checks.proofs.breaks_lie.Goals as goal

pub returns : goal.returns
returns c p e = c.all_hold.ensures p e ∙ placement-is p _
