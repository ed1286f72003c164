-- `put_field` meets its contract: tag, length, payload.
use Rattle.carrier.proofs.Printing.{field-said}
use Rattle.carrier.proofs.put_field.Goals as goal

pub returns : goal.returns
returns c = field-said c.args.tag _ c.args.payload.now c.put_number.ensures c.put-second.ensures c.put-start.ensures c.put.ensures
