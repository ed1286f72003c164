use Rattle.std.proofs.Common.{◌≡◌, length, sym, ◌∙◌, arith}
use Rattle.lexing.proofs.Names.{naming-begins, naming-more, naming-other, naming-ends}
use Rattle.lexing.proofs.name_end.Goals as goal

pub loop-i-init : goal.loop-i-init
loop-i-init c = naming-begins c.args.text.now c.args.from c.requires.from_in_bounds c.requires.from_value

pub loop-i-preserved : goal.loop-i-preserved
loop-i-preserved c =
    let e = sym c.is_letter.ensures ∙ c.if-not-is_letter.false in
    naming-more c.args.text.now c.args.from c.loop-i.i c.loop-i.invariant (omega arith) e

pub returns-then-not-is_letter : goal.returns-then-not-is_letter
returns-then-not-is_letter c =
    let e = sym c.is_letter.ensures ∙ c.if-not-is_letter.true in
    naming-other c.args.text.now c.args.from c.loop-i.i c.loop-i.invariant (omega arith) e

pub returns : goal.returns
returns c =
    let bs = c.args.text.now in
    let e : c.loop-i.i ≡ length bs = omega arith in
    rw e at (naming-ends bs c.args.from c.loop-i.i c.loop-i.invariant (omega arith))
