-- `put_table` meets its contract. The loop's invariant: what is written, and the lines from slot x on, are the whole.
use Rattle.std.proofs.Common.{◌*◌}
use Rattle.writing.specs.Laws.Walks.{Coming}
use Rattle.lines.specs.Tables.{line_size, lines_from}
use Rattle.lines.proofs.put_table.Given as goal

abbrev pub invariant-loop-x : goal.invariant-loop-x
invariant-loop-x l =
    Coming (lines_from l.host.layout l.host.nodes.now l.host.edges.now l.table 0) (lines_from l.host.layout l.host.nodes.now l.host.edges.now l.table l.x) l.initial.out l.start l.out l.at (line_size l.table * l.x)
