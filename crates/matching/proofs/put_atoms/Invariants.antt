-- `matching::put_atoms` meets its contract. The loop's invariant: the atoms passed are copied, the others as they were.
use Rattle.slots.specs.Laid.{laid}
use Rattle.matching.proofs.Storing.{Copying}
use Rattle.matching.proofs.put_atoms.Given as goal

abbrev pub invariant-loop-j : goal.invariant-loop-j
invariant-loop-j l = Copying l.start l.j (laid l.a) l.initial.atoms l.atoms
