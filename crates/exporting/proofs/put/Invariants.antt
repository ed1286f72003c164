-- `put` meets its contract. The loop's invariant: the buffer has the first k bytes of the text at the place, as far as it goes.
use Rattle.std.proofs.Common.{◌+◌, take}
use Rattle.exporting.specs.Putting.{Puts}
use Rattle.exporting.proofs.put.Given as goal

abbrev pub invariant-loop-k : goal.invariant-loop-k
invariant-loop-k l = Puts l.k (take l.k l.text) l.initial.out l.at l.out (l.at + l.k)
