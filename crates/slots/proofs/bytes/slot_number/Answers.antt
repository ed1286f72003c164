-- `slot_number` meets its contract, at one byte.
use Rattle.std.proofs.Common.{◌≡◌, sym, ◌∙◌, arith}
use Rattle.slots.proofs.Loops.{number-one}
use Rattle.slots.proofs.bytes.slot_number.Goals as goal

pub returns-else-width-eq2 : goal.returns-else-width-eq2
returns-else-width-eq2 c =
    let e : c.args.width ≡ 1 = omega (arith, c.requires, c.if-width-eq2.false) in
    rw e (c.from.ensures ∙ sym (number-one c.args.at c.args.from.now (omega (arith, c.requires))))
