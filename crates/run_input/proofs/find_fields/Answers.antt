-- `find_fields` meets its contract: each field is the one that is expected, or the definition reads nothing.
use Rattle.run_input.proofs.Inputs.{no-nodes, no_edges, no-records, no_fuel, no_program}
use Rattle.run_input.proofs.find_fields.Goals as goal

pub returns-in_err-nodes : goal.returns-in_err-nodes
returns-in_err-nodes c = rw c.from_residual.ensures (no-nodes c.args.image.now c.in_err-nodes.ensures)

pub returns-in_err-edges : goal.returns-in_err-edges
returns-in_err-edges c = let n = c.in_ok-nodes.ensures in rw c.from_residual-in_err-edges.ensures (no_edges c.args.image.now n.is c.in_err-edges.ensures)

pub returns-in_err-records : goal.returns-in_err-records
returns-in_err-records c =
    let n = c.in_ok-nodes.ensures in
    let d = c.in_ok-edges.ensures in
    rw c.from_residual-in_err-records.ensures (no-records c.args.image.now n.is d.is c.in_err-records.ensures)

pub returns-in_err-fuel : goal.returns-in_err-fuel
returns-in_err-fuel c =
    let n = c.in_ok-nodes.ensures in
    let d = c.in_ok-edges.ensures in
    let j = c.in_ok-records.ensures in
    rw c.from_residual-in_err-fuel.ensures (no_fuel c.args.image.now n.is d.is j.is c.in_err-fuel.ensures)

pub returns-in_err-program : goal.returns-in_err-program
returns-in_err-program c =
    let n = c.in_ok-nodes.ensures in
    let d = c.in_ok-edges.ensures in
    let j = c.in_ok-records.ensures in
    let f = c.in_ok-fuel.ensures in
    rw c.from_residual-in_err-program.ensures (no_program c.args.image.now n.is d.is j.is f.is c.in_err-program.ensures)
