-- `copied` meets its contract. The loop's invariant: the first j atoms are those from the place on.
use Rattle.std.proofs.Common.{take, drop}
use Rattle.labels.specs.Laws.{Filled}
use Rattle.labels.proofs.copied.Given as goal

abbrev pub invariant-loop-j : goal.invariant-loop-j
invariant-loop-j l = Filled (take l.n (drop l.from l.atoms)) l.j l.out
