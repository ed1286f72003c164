-- `put_table` meets its contract. The loop's invariant: what is put, and the lines from slot x on, are the whole.
use Rattle.std.proofs.Common.{◌*◌}
use Rattle.exporting.proofs.Walks.{Coming}
use Rattle.exporting.specs.Putting.{item_size, items_from}
use Rattle.exporting.proofs.put_table.Given as goal

abbrev pub invariant-loop-x : goal.invariant-loop-x
invariant-loop-x l =
    Coming (items_from l.host.layout l.host.nodes.now l.host.edges.now l.table 0) (items_from l.host.layout l.host.nodes.now l.host.edges.now l.table l.x) l.initial.out l.start l.out l.at (item_size l.table * l.x)
