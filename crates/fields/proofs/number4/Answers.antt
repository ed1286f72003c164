-- `number4` meets its contract: its halves are numbers of two bytes.
use Rattle.std.proofs.Common.{arith}
use Rattle.fields.specs.Laws.{four_bytes}
use Rattle.fields.proofs.number4.Goals as goal

pub returns : goal.returns
returns c = (omega (arith, c.number2.ensures.0, c.number2-2.ensures.0, four_bytes c.args.bytes.now c.args.at c.requires), omega (arith, c.number2.ensures.1, c.number2-2.ensures.1))
