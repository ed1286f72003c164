-- `laid::count` meets its contract.
use Rattle.std.proofs.Common.{sym}
use Rattle.slots.specs.Comparing.{laid-length}
use Rattle.slots.proofs.laid.count.Goals as goal

pub returns : goal.returns
returns c = sym (laid-length c.args.a.now)
