-- `slot` meets its contract: the part of the table from the slot's start on.
use Rattle.std.proofs.Common.{ap, ◌∙◌, length}
use Rattle.laws.specs.Pieces.{length-slot}
use Rattle.slots.specs.Parts.{slot-part}
use Rattle.slots.proofs.slot.Goals as goal

pub returns : goal.returns
returns c =
    let a = c.args in
    let h = c.requires in
    let e = slot-part a.w a.i a.table.now c.slot_start-start.ensures.0 h in
    (e, ap length e ∙ length-slot a.w a.table.now a.i h)
