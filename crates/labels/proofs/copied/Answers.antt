use Rattle.std.proofs.Common.{◌+◌, arith}
use Rattle.labels.specs.Laws.{filled_none, copied_more, copied_all}
use Rattle.labels.proofs.copied.Goals as goal

pub loop-j-init : goal.loop-j-init
loop-j-init c = filled_none _

pub loop-j-preserved : goal.loop-j-preserved
loop-j-preserved c =
    copied_more _ _ _ _ _ c.requires.0 c.requires.1 c.loop-j.invariant (omega arith) (omega (arith, c.type_inv.atoms (c.args.from + c.loop-j.j)))

pub returns : goal.returns
returns c = copied_all _ _ _ _ _ c.requires.0 c.requires.1 c.loop-j.invariant (omega arith)
