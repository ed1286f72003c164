-- `put_decimal` meets its contract: the digits that io writes are those of the decimal.
use Rattle.std.proofs.Common.{ap, arith, length}
use Rattle.writing.proofs.Decimals.{decimal-written}
use Rattle.writing.proofs.put_decimal.Goals as goal

pub put-requires : goal.put-requires
put-requires c =
    let decimal = c.decimal-k in
    omega (arith, ap length (decimal-written c.args.n decimal.result decimal.new.out decimal.ensures.len decimal.ensures.digits))

pub returns : goal.returns
returns c =
    let decimal = c.decimal-k in
    rw (decimal-written c.args.n decimal.result decimal.new.out decimal.ensures.len decimal.ensures.digits) at c.put.ensures
