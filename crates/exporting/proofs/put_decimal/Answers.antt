-- `put_decimal` meets its contract: the digits, from a buffer of their own.
use Rattle.std.proofs.Common.{arith}
use Rattle.exporting.specs.Putting.{digits_size}
use Rattle.exporting.proofs.Rows.{within}
use Rattle.exporting.proofs.Words.{digits-short, digits-within, digits-count, digits-front}
use Rattle.exporting.proofs.put_decimal.Goals as goal

pub put_decimal-k-requires : goal.put_decimal-k-requires
put_decimal-k-requires c = omega (arith, digits-short c.args.n (omega arith))

pub slice_bounds-text-end : goal.slice_bounds-text-end
slice_bounds-text-end c = digits-within c.put_decimal-k.ensures (omega (arith, digits-short c.args.n (omega arith)))

pub slice_bounds-put-end : goal.slice_bounds-put-end
slice_bounds-put-end c = digits-count c.put_decimal-k.ensures (omega (arith, digits-short c.args.n (omega arith)))

pub put-requires : goal.put-requires
put-requires c = rw (digits-front c.put_decimal-k.ensures) (omega (arith, digits-short c.args.n (omega arith)))

pub returns : goal.returns
returns c = within _ digits_size (digits-short c.args.n (omega arith)) (rw (digits-front c.put_decimal-k.ensures) at c.put.ensures)
