-- `procedure_holds` meets its contract.
use Rattle.command_checks.proofs.procedure_holds.Goals as goal

pub returns : goal.returns
returns c p e h d = c.body_holds.ensures _ (c.procedure_part.ensures p e h d)
