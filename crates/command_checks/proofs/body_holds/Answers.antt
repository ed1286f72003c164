-- `body_holds` meets its contract.
use Rattle.parts.specs.Images.{command_in}
use Rattle.command_checks.proofs.body_holds.Goals as goal

pub returns : goal.returns
returns c k e = c.command_holds.ensures k (rw (c.nth_tag.ensures, c.nth_part.ensures) (command_in _ k e))
