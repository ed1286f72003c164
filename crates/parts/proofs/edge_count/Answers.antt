-- `edge_count` meets its contract.
use Rattle.std.proofs.Common.{◌∙◌}
use Rattle.parts.specs.Rows.{edges-behind}
use Rattle.parts.proofs.edge_count.Goals as goal

pub returns : goal.returns
returns c g e q = c.saturating_sub.ensures ∙ edges-behind _ _ _ c.count_fields.ensures.by_index g e q
