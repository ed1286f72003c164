-- `joined` meets its contract. The loop's invariant: the atoms of the first label and j of the second are there.
use Rattle.std.proofs.Common.{◌++◌, ◌+◌}
use Rattle.labels.specs.Labels.{atoms_in}
use Rattle.labels.specs.Laws.{Filled}
use Rattle.values.proofs.joined.Given as goal

abbrev pub invariant-loop-j : goal.invariant-loop-j
invariant-loop-j l = Filled (atoms_in l.a ++ atoms_in l.b) (l.a.len + l.j) l.atoms
