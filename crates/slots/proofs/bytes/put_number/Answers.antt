use Rattle.std.proofs.Common.{◌/◌, sym, ap, ◌∙◌, arith, rules}
use Rattle.slots.proofs.Loops.{writing-none, writing_more, rest-none, rest_more}
use Rattle.slots.proofs.bytes.put_number.Goals as goal

pub loop-i-init : goal.loop-i-init
loop-i-init c = (omega arith, sym (writing-none c.args.n c.args.to.now), rest-none c.args.n c.args.to.now)

pub loop-i-preserved : goal.loop-i-preserved
loop-i-preserved c = (omega arith, rw (c.loop-i.invariant.1, c.loop-i.invariant.2) (writing_more c.args.n c.loop-i.i c.args.to.now (search rules) (search rules)), ap (λ m. m / 256) c.loop-i.invariant.2 ∙ rest_more c.args.n c.loop-i.i c.args.to.now (search rules) (search rules))
