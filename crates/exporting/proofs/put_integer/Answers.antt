-- `put_integer` meets its contract, with and without a minus.
use Rattle.exporting.proofs.Words.{integer-plain, integer-minus}
use Rattle.exporting.proofs.put_integer.Goals as goal

pub returns-then-n-lt-HALF : goal.returns-then-n-lt-HALF
returns-then-n-lt-HALF c = integer-plain c.args.atom c.if-n-lt-HALF.true c.put_decimal.ensures

pub returns : goal.returns
returns c = integer-minus c.args.atom c.if-n-lt-HALF.false c.put-start.ensures c.put_decimal-2.ensures
