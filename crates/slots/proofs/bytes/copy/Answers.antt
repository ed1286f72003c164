use Rattle.std.proofs.Common.{refl, ap, ◌∙◌, arith, rules, length-set}
use Rattle.slots.proofs.Loops.{copy_more, copy_all}
use Rattle.slots.proofs.bytes.copy.Goals as goal

pub loop-k-init : goal.loop-k-init
loop-k-init c = (refl, refl)

pub bounds-to-k : goal.bounds-to-k
bounds-to-k c = omega (arith, c.requires)

pub loop-k-preserved : goal.loop-k-preserved
loop-k-preserved c =
    (simp length-set c.loop-k.invariant.0, ap (λ l. lib.ListN.set l c.loop-k.k (lib.ListN.get_or c.args.from.now c.loop-k.k 0)) c.loop-k.invariant.1 ∙ copy_more c.loop-k.k c.args.from.now c.args.to.now (search rules) (omega (arith, c.requires)))

pub returns : goal.returns
returns c = c.loop-k.invariant.1 ∙ copy_all c.loop-k.k c.args.from.now c.args.to.now (omega arith) (omega (arith, c.requires))
