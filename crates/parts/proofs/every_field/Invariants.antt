-- `every_field` meets its contract. The loop's invariant: what is answered from the place on is answered from the start.
use Rattle.std.proofs.Common.{◌≡◌, Bool}
use Rattle.parts.specs.Walked.{Answers}
use Rattle.parts.proofs.every_field.Given as goal

abbrev pub invariant-loop-field : goal.invariant-loop-field
invariant-loop-field g l =
    (l.field-iterator.bytes.now ≡ l.p)
    × ((r : Bool) → Answers (λ tag part x. goal.F-post g l.passes tag part x) l.p l.field-iterator.place r → Answers (λ tag part x. goal.F-post g l.passes tag part x) l.p 0 r)
