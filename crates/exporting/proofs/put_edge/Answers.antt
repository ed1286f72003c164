-- `put_edge` meets its contract: the parts of the line, one after the other, or nothing.
use Rattle.std.proofs.Common.{sym, ◌∙◌, arith}
use Rattle.slots.specs.Laid.{laid}
use Rattle.exporting.specs.Putting.{edge_size}
use Rattle.exporting.proofs.Slots.{free-put, edge-put}
use Rattle.exporting.proofs.put_edge.Goals as goal

pub put_label-requires : goal.put_label-requires
put_label-requires c = record {
  label_len_bound = c.edge_label-label.ensures.1;
  label_size_bound = omega (arith, c.requires.edge_size_bound, c.put_id-a.ensures.short, c.put_end-b.ensures.short, c.put_end-c.ensures.short);
}

pub returns-then-edge_live : goal.returns-then-edge_live
returns-then-edge_live c =
    edge-put c.args.x c.edge_source-source.result c.edge_target-target.result c.edge_mark-mark.result (laid c.edge_label-label.result.now) _ (sym c.edge_live.ensures ∙ c.if-edge_live.true) c.edge_source-source.ensures c.edge_target-target.ensures c.edge_mark-mark.ensures c.edge_label-label.ensures.0 c.put_id-a.ensures c.put_end-b.ensures c.put_end-c.ensures c.put_label.ensures

pub returns : goal.returns
returns c = free-put _ edge_size c.args.x _ _ _ (sym c.edge_live.ensures ∙ c.if-edge_live.false)
