use Rattle.std.proofs.Common.{refl, sym, ap, ◌∙◌, rules}
use Rattle.meaning.specs.Basics.{both}
use Rattle.meaning.specs.Laws.Tests.{both-last}
use Rattle.slots.proofs.Loops.{zeros-seen, zeros-end}
use Rattle.slots.proofs.bytes.zeros_from.Goals as goal

pub loop-i-init : goal.loop-i-init
unfolding both
loop-i-init c = refl

pub loop-i-preserved : goal.loop-i-preserved
loop-i-preserved c = zeros-seen c.loop-i.i c.args.from.now c.loop-i.all (search rules) ∙ c.loop-i.invariant

pub returns : goal.returns
returns c = both-last c.loop-i.all ∙ ap (both c.loop-i.all) (sym (zeros-end c.loop-i.i c.args.from.now (search rules))) ∙ c.loop-i.invariant
