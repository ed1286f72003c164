-- `form_ok` meets its contract: an image is the row of rules and what is behind it.
use Rattle.std.proofs.Common.{◌∙◌}
use Rattle.image.proofs.Rows.{program-fits}
use Rattle.image.proofs.form_ok.Goals as goal

pub returns : goal.returns
returns c = c.rows_ok.ensures ∙ program-fits _
