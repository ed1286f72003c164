-- `put_id` meets its contract: the beginning of a line, then the digits.
use Rattle.writing.specs.Words.{letters}
use Rattle.exporting.specs.Lines.{id_text}
use Rattle.exporting.proofs.Rows.{then}
use Rattle.exporting.proofs.put_id.Goals as goal

pub returns : goal.returns
unfolding letters id_text
returns c = then c.put-next.ensures c.put_decimal.ensures
