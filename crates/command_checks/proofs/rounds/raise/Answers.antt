use Rattle.std.proofs.Common.{arith}
use Rattle.command_checks.proofs.Raising.{raising_next}
use Rattle.command_checks.proofs.rounds.raise.Goals as goal

pub loop-i-preserved : goal.loop-i-preserved
loop-i-preserved c p e w =
    let r = c.loop-i.invariant p e w in
    raising_next p.procedures _ _ _ _ _ (omega arith) (omega arith) r (c.raised.ensures p e r.known (omega (arith, r.known.long)))
