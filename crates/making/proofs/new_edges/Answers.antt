use Rattle.making.proofs.Loops.{meeting_none, meeting_next, meeting_more}
use Rattle.making.proofs.new_edges.Goals as goal

pub loop-i-init : goal.loop-i-init
loop-i-init c = meeting_none c.requires.held

pub come_edge-requires : goal.come_edge-requires
come_edge-requires c =
    let t = meeting_next c.loop-i.i c.loop-i-test.true c.requires.edges _ c.edge_part-p.ensures c.loop-i.invariant in
    record { held = t.0; nonzero = t.1; joins = t.2 }

pub loop-i-preserved : goal.loop-i-preserved
loop-i-preserved c = meeting_more c.loop-i.i c.loop-i-test.true c.loop-i.invariant _ c.edge_part-p.ensures _ c.come_edge.ensures.value c.come_edge.ensures.leads c.come_edge.auto.edges c.come_edge.auto.journal
