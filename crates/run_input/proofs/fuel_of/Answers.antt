-- `fuel_of` meets its contract: the payload is as long as the number.
use Rattle.run_input.proofs.Inputs.{fuel-read}
use Rattle.run_input.proofs.fuel_of.Goals as goal

pub returns : goal.returns
returns c = fuel-read c.args.image.now c.args.e c.requires c.number4.result c.number4.ensures.0
