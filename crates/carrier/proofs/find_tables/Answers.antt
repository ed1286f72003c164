-- `find_tables` meets its contract: the fields are those that are expected, or the definition reads nothing.
use Rattle.carrier.proofs.Inputs.{too_long, no-nodes, no_edges, found}
use Rattle.carrier.proofs.find_tables.Goals as goal

pub returns-then-input-gt-MOST : goal.returns-then-input-gt-MOST
returns-then-input-gt-MOST c = too_long c.args.input.now c.if-input-gt-MOST.true

pub returns-in_err-middle : goal.returns-in_err-middle
returns-in_err-middle c = rw c.from_residual.ensures (no-nodes c.args.input.now c.if-input-gt-MOST.false c.in_err-middle.ensures)

pub returns-in_err-end : goal.returns-in_err-end
returns-in_err-end c =
    let n = c.in_ok-middle.ensures in
    rw c.from_residual-in_err-end.ensures (no_edges c.args.input.now c.if-input-gt-MOST.false n c.in_err-end.ensures)

pub returns : goal.returns
returns c =
    let n = c.in_ok-middle.ensures in
    let e = c.in_ok-end.ensures in
    rw c.then_some.ensures (found c.args.input.now c.if-input-gt-MOST.false n e)
