-- `put_slot` meets its contract: on bytes and on slots.
use Rattle.std.proofs.Common.{ap, ◌∙◌}
use Rattle.meaning.specs.Layout.{cut}
use Rattle.laws.specs.Pieces.{cut-stored}
use Rattle.slots.specs.Parts.{slot-back}
use Rattle.slots.proofs.put_slot.Goals as goal

pub returns : goal.returns
returns c =
    let a = c.args in
    let e = slot-back a.w a.i a.table.now c.slot_start-start.ensures.0 c.copy.ensures in
    (ap (cut a.w) e ∙ cut-stored a.w a.i a.from.now a.table.now c.requires.0 c.requires.1, e)
