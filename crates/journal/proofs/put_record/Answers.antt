-- `put_record` meets its contract: zeros, then the kind, the slot number and the bytes before.
use Rattle.meaning.specs.Layout.{edge_length}
use Rattle.journal.proofs.Records.{record_put}
use Rattle.journal.proofs.put_record.Goals as goal

pub returns : goal.returns
returns c =
    let a = c.args in
    record_put a.l.width (edge_length a.l) a.kind a.i a.to.now c.clear.new.to c.put_number.new.to c.copy.new.to a.old.now c.requires.sized.narrow c.requires.to_len.1 c.requires.to_len.0 c.clear.ensures c.put_number.ensures c.copy.ensures
