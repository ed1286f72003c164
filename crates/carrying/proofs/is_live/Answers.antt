-- `is_live` meets its contract: a table has no live slot behind its last.
use Rattle.std.proofs.Common.{◌≤◌, sym, arith}
use Rattle.carrying.proofs.Free.{live-behind}
use Rattle.carrying.proofs.is_live.Goals as goal

pub returns-then-x-n : goal.returns-then-x-n
returns-then-x-n c =
    let a = c.args in
    sym (live-behind a.host.now.layout a.host.now.nodes.now a.host.now.edges.now a.which a.x (rw (← c.requires) c.if-x-n.true))
