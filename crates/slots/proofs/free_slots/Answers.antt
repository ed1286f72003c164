use Rattle.std.proofs.Common.{◌<◌, sym, ◌∙◌, arith, rules, length}
use Rattle.slots.specs.Slots.{states}
use Rattle.slots.proofs.Slots.{slots-live, slots-free, slots_end, length-states}
use Rattle.slots.proofs.free_slots.Goals as goal
use Rattle.slots.proofs.free_slots.Goals.{then-not-live_slot, else-not-live_slot}

pub loop-i-preserved : goal.loop-i-preserved
loop-i-preserved c =
    let s = states c.args.w c.args.table.now in
    let j : c.loop-i.i < length s = rw length-states (search rules) in
    elim c.if-not-live_slot.branch [
      | then-not-live_slot b ↦
          let e = slots-free s c.loop-i.i j (sym c.live_slot.ensures ∙ b.if-not-live_slot.true) in
          (omega (arith, b.free-is, c.loop-i.invariant.0), omega (arith, b.free-is, e, c.loop-i.invariant.1))
      | else-not-live_slot b ↦
          let e = slots-live s c.loop-i.i j (sym c.live_slot.ensures ∙ b.if-not-live_slot.false) in
          (omega (arith, b.free-is, c.loop-i.invariant.0), omega (arith, b.free-is, e, c.loop-i.invariant.1))
    ]

pub returns : goal.returns
returns c =
    let s = states c.args.w c.args.table.now in
    let e = slots_end s c.loop-i.i (rw length-states (search rules)) in
    omega (arith, e, c.loop-i.invariant.1)
