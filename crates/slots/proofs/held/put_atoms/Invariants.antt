-- `put_atoms` meets its contract. The loop's invariant: the first `j` atoms are written, the other bytes as they were.
use Rattle.std.proofs.Common.{◌≡◌, length}
use Rattle.slots.proofs.Written.{labelling}
use Rattle.slots.proofs.held.put_atoms.Given as goal

abbrev pub invariant-loop-j : goal.invariant-loop-j
invariant-loop-j l = (length l.to ≡ length l.initial.to) × (l.to ≡ labelling l.label l.j l.initial.to)
