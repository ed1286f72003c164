-- `name_end` meets its contract. The invariant: the letters up to here are of the name.
use Rattle.lexing.proofs.Names.{Naming}
use Rattle.lexing.proofs.name_end.Given as goal

abbrev pub invariant-loop-i : goal.invariant-loop-i
invariant-loop-i l = Naming l.text l.from l.i
