-- `put_node` meets its contract: the parts of the line, one after the other, or nothing.
use Rattle.std.proofs.Common.{sym, ◌∙◌}
use Rattle.slots.specs.Laid.{laid}
use Rattle.exporting.specs.Putting.{node_size}
use Rattle.exporting.proofs.Slots.{free-put, node-put}
use Rattle.exporting.proofs.put_node.Goals as goal

pub returns-then-node_live : goal.returns-then-node_live
returns-then-node_live c =
    node-put c.args.x c.node_mark-mark.result c.node_root-root.result (laid c.node_label-label.result.now) _ (sym c.node_live.ensures ∙ c.if-node_live.true) c.node_mark-mark.ensures c.node_root-root.ensures c.node_label-label.ensures.0 c.put_id-a.ensures c.put_root-b.ensures c.put_label.ensures

pub returns : goal.returns
returns c = free-put _ node_size c.args.x _ _ _ (sym c.node_live.ensures ∙ c.if-node_live.false)
