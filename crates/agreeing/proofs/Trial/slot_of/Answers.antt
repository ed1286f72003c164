-- `slot_of` meets its contract.
use Rattle.std.proofs.Common.{sym}
use Rattle.meaning.specs.Laws.Tests.{choose_eq, choose_ne}
use Rattle.agreeing.proofs.Trial.slot_of.Goals as goal

pub returns-then-j-self : goal.returns-then-j-self
returns-then-j-self c = sym (choose_eq _ _ _ _ c.if-j-self.true)

pub returns-else-j-self : goal.returns-else-j-self
returns-else-j-self c = sym (choose_ne _ _ _ _ c.if-j-self.false)
