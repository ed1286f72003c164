-- `expect` meets its contract: the reader's field is the one that is expected, or none is.
use Rattle.std.proofs.Common.{sym}
use Rattle.run_input.proofs.Fields.{expect-end, expect-cut, expect-found}
use Rattle.run_input.proofs.expect.Goals as goal

pub returns-in_err-read_field : goal.returns-in_err-read_field
returns-in_err-read_field c = let a = c.args in rw c.from_residual.ensures (expect-end a.image.now a.at a.tag c.in_err-read_field.ensures)

pub returns-in_err-field : goal.returns-in_err-field
returns-in_err-field c =
    let a = c.args in
    rw c.from_residual-in_err-field.ensures (expect-cut a.image.now a.at a.tag _ c.in_ok-read_field.ensures (sym c.in_err-field.ensures.value))

pub returns : goal.returns
returns c = let a = c.args in rw c.then_some.ensures (expect-found a.image.now a.at a.tag _ _ c.in_ok-read_field.ensures (sym c.in_ok-field.ensures.value))
