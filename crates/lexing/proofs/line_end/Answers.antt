use Rattle.std.proofs.Common.{◌≡◌, length, ◌∙◌, arith}
use Rattle.lexing.proofs.Comments.{aside_feed, aside-more, aside_end}
use Rattle.lexing.proofs.line_end.Goals as goal

pub returns-then-text-i-eq10 : goal.returns-then-text-i-eq10
returns-then-text-i-eq10 c =
    let bs = c.args.text.now in
    record { said = c.loop-i.invariant ∙ aside_feed bs c.loop-i.i (omega arith) c.if-text-i-eq10.true; onward = omega arith; within = omega arith }

pub loop-i-preserved : goal.loop-i-preserved
loop-i-preserved c = c.loop-i.invariant ∙ aside-more c.args.text.now c.loop-i.i (omega arith) c.if-text-i-eq10.false

pub returns : goal.returns
returns c =
    let bs = c.args.text.now in
    let e : c.loop-i.i ≡ length bs = omega arith in
    record { said = rw e at (c.loop-i.invariant ∙ aside_end bs c.loop-i.i (omega arith)); onward = omega arith; within = omega arith }
