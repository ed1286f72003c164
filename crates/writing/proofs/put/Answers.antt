-- `put` meets its contract.
use Rattle.writing.proofs.Bytes.{put-bytes}
use Rattle.writing.proofs.put.Goals as goal

pub returns : goal.returns
returns c = let a = c.args in put-bytes a.text.now a.out.now _ a.at c.copy_from_slice.ensures.after c.requires
