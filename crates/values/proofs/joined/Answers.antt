use Rattle.std.proofs.Common.{arith}
use Rattle.values.specs.Laws.{joined-no}
use Rattle.values.specs.Joining.{joined-start, joined-more, joined-full, joined-value}
use Rattle.values.proofs.joined.Goals as goal

pub returns-then-len-most : goal.returns-then-len-most
returns-then-len-most c = (tt, joined-no _ _ c.requires.0 c.requires.1 _ c.if-len-most.true)

pub loop-j-init : goal.loop-j-init
loop-j-init c = joined-start _ _ c.requires.0 c.requires.1

pub loop-j-preserved : goal.loop-j-preserved
loop-j-preserved c =
    joined-more _ _ c.requires.0 c.requires.1 _ c.requires.3 c.if-len-most.false _ _ c.loop-j.invariant (omega arith)

pub returns : goal.returns
returns c =
    let f = c.loop-j.invariant in (
      record {
        held = (joined-full _ _ c.requires.0 c.requires.1 _ c.requires.3 c.if-len-most.false _ _ f (omega arith)).held;
        few = c.if-len-most.false;
      },
      joined-value _ _ c.requires.0 c.requires.1 _ c.requires.3 c.if-len-most.false _ _ f (omega arith),
    )
