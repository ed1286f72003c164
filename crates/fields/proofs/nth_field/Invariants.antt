-- `nth_field` meets its contract. The loop's invariant: the field of number n is as many fields on from the place as are left.
use Rattle.std.proofs.Common.{◌≡◌, ◌-◌}
use Rattle.fields.specs.Fields.{nth_field}
use Rattle.fields.proofs.nth_field.Given as goal

abbrev pub invariant-loop : goal.invariant-loop
invariant-loop l = nth_field (l.n - l.counter) l.bytes l.place ≡ nth_field l.n l.bytes 0
