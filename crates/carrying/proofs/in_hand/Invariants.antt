-- `in_hand` meets its contract. The loop's invariant: the first j atoms are those of the label.
use Rattle.labels.specs.Laws.{Filled}
use Rattle.slots.specs.Laid.{laid}
use Rattle.carrying.proofs.in_hand.Given as goal

abbrev pub invariant-loop-j : goal.invariant-loop-j
invariant-loop-j l = Filled (laid l.a) l.j l.atoms
