-- `live_slot` meets its contract: a slot that is there has its state.
use Rattle.std.proofs.lemmas.Bool.{le-ltb}
use Rattle.slots.proofs.Slots.{live-outside}
use Rattle.slots.proofs.live_slot.Goals as goal

pub returns-else-i-table : goal.returns-else-i-table
returns-else-i-table c =
    let a = c.args in
    rw (live-outside a.w a.i a.table.now c.if-i-table.false) (le-ltb _ _ c.if-i-table.false)
