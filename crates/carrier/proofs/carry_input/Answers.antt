-- `carry_input` meets its contract: the tables are those that the definition reads.
use Rattle.carrier.proofs.Inputs.{both_read, input-refused, input-carried}
use Rattle.carrier.proofs.carry_input.Goals as goal

pub returns-in_default : goal.returns-in_default
returns-in_default c = input-refused c.args.from c.args.to c.args.input.now c.in_default.ensures c.put_no_input.ensures

pub returns : goal.returns
returns c =
    let t = c.in-Some.ensures in
    input-carried c.args.from c.args.to c.args.input.now _ _ _ _ (both_read c.args.input.now t.small t.nodes t.edges t.whole) c.payload-nodes.ensures.same c.payload-edges.ensures.same c.carry_parts.ensures
