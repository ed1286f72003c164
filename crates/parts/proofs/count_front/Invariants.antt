-- `count_front` meets its contract. The loop's invariant: the fields of the tag at the front are those counted and those from the
-- place on.
use Rattle.std.proofs.Common.{◌≡◌}
use Rattle.parts.specs.Rows.{Counting}
use Rattle.parts.proofs.count_front.Given as goal

abbrev pub invariant-loop-field : goal.invariant-loop-field
invariant-loop-field l = (l.field-iterator.bytes.now ≡ l.p) × Counting l.tag l.p l.field-iterator.place l.n
