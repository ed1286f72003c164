use Rattle.std.proofs.Common.{◌∙◌, ◌-◌, arith}
use Rattle.command_checks.proofs.Demands.{depth_is}
use Rattle.command_checks.proofs.rounds.depth_fits.Goals as goal

pub returns : goal.returns
returns c p e w = c.all_hold.ensures p e ∙ depth_is p (c.loop-n.n - 1) _ (omega arith) (c.loop-n.invariant p e w)
