use Rattle.std.proofs.Common.{arith, length-set}
use Rattle.making.proofs.Loops.{growing_none, growing_next, growing_more, growing_all}
use Rattle.making.proofs.new_nodes.Goals as goal

pub loop-i-init : goal.loop-i-init
loop-i-init c = (c.requires.grows.room, growing_none c.requires.held)

pub come_node-requires : goal.come_node-requires
come_node-requires c =
    let t = growing_next c.loop-i.i c.loop-i-test.true c.requires.grows _ c.node_part-p.ensures c.loop-i.invariant.1 in
    record { held = t.0; nonzero = t.1; comes = t.2 }

pub loop-i-preserved : goal.loop-i-preserved
loop-i-preserved c =
    (simp length-set c.loop-i.invariant.0, growing_more c.loop-i.i c.loop-i-test.true c.loop-i.invariant.1 _ c.node_part-p.ensures _ c.come_node.ensures.value c.come_node.ensures.leads c.come_node.auto.nodes c.come_node.auto.journal c.loop-i.invariant.0)

pub returns : goal.returns
returns c = growing_all c.loop-i.i c.loop-i.invariant.1 (omega (arith, c.loop-i-test.false)) c.loop-i.invariant.0
