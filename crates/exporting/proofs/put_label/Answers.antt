-- `put_label` meets its contract: the parts, one after the other.
use Rattle.writing.specs.Words.{letters}
use Rattle.exporting.specs.Lines.{label_text}
use Rattle.exporting.proofs.Rows.{then}
use Rattle.exporting.proofs.put_label.Goals as goal

pub returns : goal.returns
unfolding letters label_text
returns c = then (then (then c.put-a.ensures c.put_atoms-b.ensures) c.put_mark-c.ensures) c.put.ensures
