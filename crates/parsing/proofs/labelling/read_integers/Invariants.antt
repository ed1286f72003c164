-- `read_integers` meets its contract. The invariant: the integers read behind the first one, and what was gathered of all.
use Rattle.std.proofs.Common.{◌-◌, length}
use Rattle.parsing.proofs.Lists.{Gathering}
use Rattle.parsing.proofs.labelling.read_integers.Given as goal

abbrev pub invariant-loop-colon : goal.invariant-loop-colon
invariant-loop-colon l = Gathering l.text l.initial.next l.initial.label l.next l.label

abbrev pub decreases-loop-colon : goal.decreases-loop-colon
decreases-loop-colon l = length l.text - l.next
