-- `put_atoms` meets its contract. The loop's invariant: what is put behind the first atom, and the atoms from number j on, are the whole.
use Rattle.std.proofs.Common.{◌+◌, ◌*◌, drop}
use Rattle.slots.specs.Laid.{laid}
use Rattle.exporting.specs.Lines.{atoms_behind}
use Rattle.exporting.specs.Putting.{integer_size}
use Rattle.exporting.proofs.Walks.{Coming}
use Rattle.exporting.proofs.put_atoms.Given as goal

abbrev pub invariant-loop-j : goal.invariant-loop-j
invariant-loop-j l =
    Coming (atoms_behind (drop 1 (laid l.label))) (atoms_behind (drop l.j (laid l.label))) l.initial.out l.initial.at l.out l.at ((1 + integer_size) * l.j)
