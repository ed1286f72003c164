-- `next` gives what is found at the place, and goes on behind it.
use Rattle.std.proofs.Common.{◌≡◌, refl, ap, ◌∙◌, Some, Ok, rules}
use Rattle.fields.specs.Fields.{behind}
use Rattle.fields.proofs.Finding.{nearer-field, nearer-cut}
use Rattle.fields.proofs.FieldsIterator.next.Goals as goal

pub returns-in-Some-Ok-clause-steps : goal.returns-in-Some-Ok-clause-steps
unfolding behind
returns-in-Some-Ok-clause-steps c =
    let e : c.read_field-found.result ≡ Some (Ok c.in-Some-Ok.field) = c.in-Some-Ok.is ∙ ap Some (rw c.in-Some-Ok.is at c.in-Some-Ok.field-0-is) in
    record { same = refl; found = c.read_field-found.ensures; place = rw e }

pub returns-in-Some-Ok-clause-goes : goal.returns-in-Some-Ok-clause-goes
returns-in-Some-Ok-clause-goes c =
    let e : c.read_field-found.result ≡ Some (Ok c.in-Some-Ok.field) = c.in-Some-Ok.is ∙ ap Some (rw c.in-Some-Ok.is at c.in-Some-Ok.field-0-is) in
    let h = nearer-field _ _ c.read_field-found.ensures e in
    search rules

pub returns-in-Some-Err-clause-steps : goal.returns-in-Some-Err-clause-steps
unfolding behind
returns-in-Some-Err-clause-steps c =
    let e = c.in-Some-Err.is ∙ ap Some (rw c.in-Some-Err.is at c.in-Some-Err.field-0-is) in
    record { same = refl; found = c.read_field-found.ensures; place = rw e }

pub returns-in-Some-Err-clause-goes : goal.returns-in-Some-Err-clause-goes
returns-in-Some-Err-clause-goes c =
    let e = c.in-Some-Err.is ∙ ap Some (rw c.in-Some-Err.is at c.in-Some-Err.field-0-is) in
    let h = nearer-cut _ _ c.read_field-found.ensures e in
    search rules

pub returns-in-None-clause-steps : goal.returns-in-None-clause-steps
unfolding behind
returns-in-None-clause-steps c = record { same = refl; found = c.read_field-found.ensures; place = rw c.in-None.is }
