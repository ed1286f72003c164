-- `held::is_live` meets its contract: the state's byte is zero in a free slot alone.
use Rattle.std.proofs.Common.{sym}
use Rattle.slots.specs.States.{state-byte}
use Rattle.slots.proofs.held.is_live.Goals as goal

pub returns : goal.returns
returns c = rw c.state.ensures (sym (state-byte _))
