-- `export_host` meets its contract: the text is counted, and written where the buffer has room for it.
use Rattle.std.proofs.Common.{arith}
use Rattle.exporting.proofs.Checks.{left-short, left-whole}
use Rattle.exporting.proofs.export_host.Goals as goal

pub returns-then-n-buffer : goal.returns-then-n-buffer
returns-then-n-buffer c = left-short _ c.put_graph-n.ensures _ (omega arith)

pub returns : goal.returns
returns c = left-whole _ c.put_graph-n.ensures _ (omega arith) c.put_graph.ensures
