-- `names_exist` meets its contract.
use Rattle.std.proofs.Common.{◌∙◌}
use Rattle.command_checks.proofs.Demands.{names-are}
use Rattle.command_checks.proofs.names_exist.Goals as goal

pub returns : goal.returns
returns c p e = c.all_hold.ensures p e ∙ names-are p _ _ _ (c.rule_count-rules.ensures p e) (c.procedure_count-procedures.ensures p e)
