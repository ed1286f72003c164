-- `filled` meets its contract, at one byte and at two.
use Rattle.std.proofs.Common.{◌≡◌, arith}
use Rattle.meaning.specs.Basics.{zeros}
use Rattle.journal.proofs.Records.{filled-byte}
use Rattle.journal.proofs.filled.Goals as goal

pub returns-then-width-eq1 : goal.returns-then-width-eq1
unfolding zeros
returns-then-width-eq1 c = rw c.if-width-eq1.true

pub returns-else-width-eq1 : goal.returns-else-width-eq1
returns-else-width-eq1 c =
    let e : c.args.width ≡ 2 = omega (arith, c.requires, c.if-width-eq1.false) in
    rw e (filled-byte c.args.b.now c.requires.0)
