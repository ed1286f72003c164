-- `is_edge_mark` meets its contract.
use Rattle.std.proofs.Common.{◌∙◌}
use Rattle.std.proofs.lemmas.Bool.{le-leb}
use Rattle.host.proofs.Keeps.{edge-mark-low, edge-mark_high}
use Rattle.host.proofs.is_edge_mark.Goals as goal

pub returns-then-mark-le-BLUE : goal.returns-then-mark-le-BLUE
returns-then-mark-le-BLUE c = le-leb c.args.mark 3 c.if-mark-le-BLUE.true ∙ edge-mark-low c.args.mark c.if-mark-le-BLUE.true

pub returns-else-mark-le-BLUE : goal.returns-else-mark-le-BLUE
returns-else-mark-le-BLUE c = edge-mark_high c.args.mark c.if-mark-le-BLUE.false
