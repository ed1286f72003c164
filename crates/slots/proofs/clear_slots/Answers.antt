-- `clear_slots` meets its contract: the slots lie in the table, and their bytes are zero.
use Rattle.slots.proofs.Rows.{row-cleared}
use Rattle.slots.proofs.clear_slots.Goals as goal

pub returns : goal.returns
returns c =
    let a = c.args in
    row-cleared a.w a.from a.to a.table.now c.requires.0 c.requires.1 c.clear.ensures
