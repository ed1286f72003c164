-- `making::change_nodes` meets its contract. The loop's invariant: the first `i` nodes have changed, each with its record.
use Rattle.making.proofs.Loops.{Altering}
use Rattle.making.proofs.change_nodes.Given as goal

abbrev pub invariant-loop-i : goal.invariant-loop-i
invariant-loop-i l = Altering l.l l.initial.nodes l.edges l.initial.journal l.preserving l.left l.right l.values.lens l.values.atoms l.slots l.used l.k l.n l.i l.nodes l.journal
