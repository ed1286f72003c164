-- `put_no_input` meets its contract.
use Rattle.std.proofs.Common.{arith}
use Rattle.writing.specs.Words.{letters}
use Rattle.writing.specs.Laws.Rows.{lists}
use Rattle.carrier.proofs.put_no_input.Goals as goal

pub returns : goal.returns
unfolding letters
returns c = lists (letters "input refused\n") 14 c.put.ensures (omega (arith, c.requires, c.put.auto.out))
