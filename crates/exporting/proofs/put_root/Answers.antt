-- `put_root` meets its contract.
use Rattle.writing.specs.Words.{letters}
use Rattle.exporting.proofs.Words.{root_none, root-put}
use Rattle.exporting.proofs.put_root.Goals as goal

pub returns-then-root-eq0 : goal.returns-then-root-eq0
returns-then-root-eq0 c = root_none c.args.root _ _ c.if-root-eq0.true

pub returns : goal.returns
unfolding letters
returns c = root-put c.args.root c.if-root-eq0.false c.put.ensures
