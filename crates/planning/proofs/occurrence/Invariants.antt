-- `occurrence` meets its contract. The loop's invariant: what is left of the label has the variable where the label has, and the
-- elements before it are counted.
use Rattle.std.proofs.Common.{◌≡◌}
use Rattle.planning.proofs.Variables.{Seeking}
use Rattle.planning.proofs.occurrence.Given as goal

abbrev pub invariant-loop-field : goal.invariant-loop-field
invariant-loop-field l = (l.field-iterator.bytes.now ≡ l.p) × Seeking l.types l.v l.p l.field-iterator.place l.singles l.lists
