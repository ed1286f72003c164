-- `making::new_edges` meets its contract. The loop's invariant: the first `i` edges have come, each with its record.
use Rattle.making.proofs.Loops.{Meeting}
use Rattle.making.proofs.new_edges.Given as goal

abbrev pub invariant-loop-i : goal.invariant-loop-i
invariant-loop-i l = Meeting l.l l.nodes l.initial.edges l.initial.journal l.right l.values.lens l.values.atoms l.places l.used l.count l.i l.edges l.journal
