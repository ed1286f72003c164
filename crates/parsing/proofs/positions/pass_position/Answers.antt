-- `pass_position` meets its contract.
use Rattle.parsing.proofs.Parts.{position-read, position-none}
use Rattle.parsing.proofs.positions.pass_position.Goals as goal

pub returns-in-Ok : goal.returns-in-Ok
returns-in-Ok c = position-read _ c.in-Ok.ensures.0 _ c.pass_coordinates.ensures

pub returns-in-Err : goal.returns-in-Err
returns-in-Err c = position-none _ c.in-Err.ensures
