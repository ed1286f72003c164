-- `count_fields` meets its contract. The loop's invariant: the fields of all are those counted and those from the place on.
use Rattle.std.proofs.Common.{◌≡◌}
use Rattle.parts.specs.Rows.{Numbering}
use Rattle.parts.proofs.count_fields.Given as goal

abbrev pub invariant-loop-field : goal.invariant-loop-field
invariant-loop-field l = (l.field-iterator.bytes.now ≡ l.p) × Numbering l.p l.field-iterator.place l.n
