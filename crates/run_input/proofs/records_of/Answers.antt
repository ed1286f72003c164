-- `records_of` meets its contract: the payload is as long as the number.
use Rattle.run_input.proofs.Inputs.{records-read}
use Rattle.run_input.proofs.records_of.Goals as goal

pub returns : goal.returns
returns c = records-read c.args.image.now c.args.e c.requires c.number2.result c.number2.ensures.0
