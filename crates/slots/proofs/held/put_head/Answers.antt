-- `put_head` meets its contract.
use Rattle.slots.proofs.Written.{head_put}
use Rattle.slots.proofs.held.put_head.Goals as goal

pub returns : goal.returns
returns c =
    head_put c.args.to.now c.clear.new.to c.args.mark c.args.root c.args.size c.requires c.clear.ensures
