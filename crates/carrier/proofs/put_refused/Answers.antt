-- `put_refused` meets its contract: the words of the line, one after the other.
use Rattle.std.proofs.Common.{arith}
use Rattle.writing.specs.Words.{letters}
use Rattle.carrier.proofs.Printing.{refused-listed}
use Rattle.carrier.proofs.put_refused.Goals as goal

pub returns : goal.returns
unfolding letters
returns c = refused-listed c.args.answer c.put-word.ensures c.put_number-end.ensures c.put.ensures (omega (arith, c.requires, c.put.auto.out))
