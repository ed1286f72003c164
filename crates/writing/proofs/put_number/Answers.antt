-- `put_number` meets its contract: a space, then the digits.
use Rattle.std.proofs.Common.{arith}
use Rattle.writing.specs.Words.{most_digits, number_size}
use Rattle.writing.specs.Laws.Digits.{decimal-length}
use Rattle.writing.specs.Laws.Rows.{within, then}
use Rattle.writing.proofs.put_number.Goals as goal

pub put_decimal-requires : goal.put_decimal-requires
put_decimal-requires c = omega (arith, decimal-length most_digits c.args.n (omega arith) (omega arith))

pub returns : goal.returns
returns c = within _ number_size (omega (arith, decimal-length most_digits c.args.n (omega arith) (omega arith))) (then c.put-start.ensures c.put_decimal.ensures)
