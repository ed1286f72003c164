-- `put_root` meets its contract.
use Rattle.writing.specs.Words.{letters}
use Rattle.writing.proofs.Words.{root-plain, root-root}
use Rattle.writing.proofs.put_root.Goals as goal

pub returns-then-root-eq0 : goal.returns-then-root-eq0
unfolding letters
returns-then-root-eq0 c = root-plain c.args.root c.if-root-eq0.true c.put.ensures

pub returns-else-root-eq0 : goal.returns-else-root-eq0
unfolding letters
returns-else-root-eq0 c = root-root c.args.root c.if-root-eq0.false c.put-else-root-eq0.ensures
