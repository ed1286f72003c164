-- `put_end` meets its contract: a comma and a space, then the digits.
use Rattle.writing.specs.Words.{letters}
use Rattle.exporting.specs.Lines.{end_text}
use Rattle.exporting.proofs.Rows.{then}
use Rattle.exporting.proofs.put_end.Goals as goal

pub returns : goal.returns
unfolding letters end_text
returns c = then c.put-next.ensures c.put_decimal.ensures
