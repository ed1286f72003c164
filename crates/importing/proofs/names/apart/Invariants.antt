-- `apart` meets its contract. The loop's invariant: none of the first i names is behind itself again.
use Rattle.importing.proofs.Lookup.{Apart}
use Rattle.importing.proofs.names.apart.Given as goal

abbrev pub invariant-loop-i : goal.invariant-loop-i
invariant-loop-i l = Apart l.text l.places l.i
