use Rattle.std.proofs.Common.{◌≡◌, arith}
use Rattle.labels.specs.Laws.{filled_none, filled_more, filled-all}
use Rattle.slots.specs.Laid.{laid}
use Rattle.carrying.proofs.in_hand.Goals as goal

pub loop-j-init : goal.loop-j-init
loop-j-init c = filled_none _

pub loop-j-preserved : goal.loop-j-preserved
loop-j-preserved c =
    filled_more (laid c.args.a.now) c.loop-j.atoms c.loop-j.j c.atom.result c.loop-j.invariant (omega (arith, c.count-len.ensures, c.requires)) (omega (arith, c.count-len.ensures)) (omega (arith, c.atom.type_inv)) c.atom.ensures

pub returns : goal.returns
returns c =
    let e : c.loop-j.j ≡ c.count-len.result = omega arith in
    filled-all (laid c.args.a.now) c.loop-j.atoms c.count-len.result (rw e at c.loop-j.invariant) (omega (arith, c.count-len.ensures, c.requires)) c.count-len.ensures
