-- `number2` meets its contract: two bytes write the number that the definition reads.
use Rattle.std.proofs.Common.{arith}
use Rattle.fields.specs.Laws.{two_bytes}
use Rattle.fields.proofs.number2.Goals as goal

pub returns : goal.returns
returns c = (omega (arith, c.from.ensures, c.from_be_bytes.ensures, two_bytes c.args.bytes.now c.args.at c.requires), omega (arith, c.from.ensures, c.from_be_bytes.ensures))
