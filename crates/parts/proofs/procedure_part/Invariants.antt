-- `procedure_part` meets its contract. The loop's invariant: what is left to count is left from the place on.
use Rattle.std.proofs.Common.{◌≡◌}
use Rattle.parts.specs.Images.{Seeking}
use Rattle.parts.proofs.procedure_part.Given as goal

abbrev pub invariant-loop-field : goal.invariant-loop-field
invariant-loop-field l = (l.field-iterator.bytes.now ≡ l.image) × Seeking l.image l.i l.field-iterator.place l.left
