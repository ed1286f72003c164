-- `flag` meets its contract.
use Rattle.std.proofs.Common.{ap, ℕ, eqb}
use Rattle.parts.proofs.flag.Goals as goal

pub returns : goal.returns
returns c = ap (λ (b : ℕ). eqb b 1) c.byte_at.ensures
