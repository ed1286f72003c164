-- `put_atom` meets its contract, with and without a minus.
use Rattle.std.proofs.Common.{◌-◌, arith}
use Rattle.meaning.specs.Numbers.{whole}
use Rattle.writing.specs.Words.{word_digits}
use Rattle.writing.specs.Laws.Digits.{decimal-length}
use Rattle.writing.proofs.Words.{atom-plain, atom-minus}
use Rattle.writing.proofs.put_atom.Goals as goal

pub put_decimal-requires : goal.put_decimal-requires
put_decimal-requires c = omega (arith, decimal-length word_digits c.args.atom (omega arith) (omega arith))

pub returns-then-n-lt-HALF : goal.returns-then-n-lt-HALF
returns-then-n-lt-HALF c =
    let put-decimal = c.put_decimal in
    atom-plain c.args.atom c.if-n-lt-HALF.true c.put-start.ensures put-decimal.ensures

pub put_decimal-requires-else-n-lt-HALF : goal.put_decimal-requires-else-n-lt-HALF
put_decimal-requires-else-n-lt-HALF c = omega (arith, decimal-length word_digits (whole - c.args.atom) (omega arith) (omega arith))

pub returns-else-n-lt-HALF : goal.returns-else-n-lt-HALF
returns-else-n-lt-HALF c =
    let put-decimal2 = c.put_decimal-else-n-lt-HALF in
    atom-minus c.args.atom c.if-n-lt-HALF.false c.put-start-else-n-lt-HALF.ensures put-decimal2.ensures
