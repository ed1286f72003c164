-- `keeps_layout` meets its contract.
use Rattle.std.proofs.Common.{refl}
use Rattle.meaning.specs.Layout.{keeps_layout}
use Rattle.host.proofs.Keeps.{and-then, and-else}
use Rattle.host.proofs.keeps_layout.Goals as goal

pub returns-then-keeps_slots : goal.returns-then-keeps_slots
unfolding keeps_layout
returns-then-keeps_slots c = rw (← c.keeps_slots.ensures) (and-then c.if-keeps_slots.true c.keeps_slots-then-keeps_slots.ensures)

pub returns-else-keeps_slots : goal.returns-else-keeps_slots
unfolding keeps_layout
returns-else-keeps_slots c = rw (← c.keeps_slots.ensures) (and-else _ c.if-keeps_slots.false refl)
