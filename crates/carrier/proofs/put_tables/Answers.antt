-- `put_tables` meets its contract: one field after the other, and they have room.
use Rattle.std.proofs.Common.{arith}
use Rattle.carrier.proofs.Printing.{tables-listed}
use Rattle.carrier.proofs.put_tables.Goals as goal

pub returns : goal.returns
returns c = tables-listed c.args.nodes.now c.args.edges.now c.requires.input_of (omega (arith, c.requires.most_input_in_bounds, c.put_field.auto.out)) c.put_field-middle.ensures c.put_field.ensures
