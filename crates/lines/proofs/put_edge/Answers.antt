-- `put_edge` meets its contract: the words of the line, one after the other, or nothing.
use Rattle.std.proofs.Common.{sym, ◌∙◌, arith}
use Rattle.slots.specs.Laid.{laid}
use Rattle.writing.specs.Words.{letters}
use Rattle.writing.specs.Laws.Rows.{nothing}
use Rattle.lines.proofs.Lines.{edge-said}
use Rattle.lines.proofs.Walks.{slot-free, slot-edge}
use Rattle.lines.proofs.put_edge.Goals as goal

pub put_number-c-requires : goal.put_number-c-requires
put_number-c-requires c = omega (arith, c.requires.edge_size_in_bounds, c.put-a.ensures.short, c.put_number-b.ensures.short)

pub put_number-d-requires : goal.put_number-d-requires
put_number-d-requires c = omega (arith, c.requires.edge_size_in_bounds, c.put-a.ensures.short, c.put_number-b.ensures.short, c.put_number-c.ensures.short)

pub put_mark-e-requires : goal.put_mark-e-requires
put_mark-e-requires c = omega (arith, c.requires.edge_size_in_bounds, c.put-a.ensures.short, c.put_number-b.ensures.short, c.put_number-c.ensures.short, c.put_number-d.ensures.short)

pub put_label-requires : goal.put_label-requires
put_label-requires c = record {
  label_len_bound = c.edge_label-label.ensures.1;
  label_size_in_bounds = omega (arith, c.requires.edge_size_in_bounds, c.put-a.ensures.short, c.put_number-b.ensures.short, c.put_number-c.ensures.short, c.put_number-d.ensures.short, c.put_mark-e.ensures.short);
}

pub returns : goal.returns
unfolding letters
returns c =
    rw (slot-edge c.args.x _ (sym c.edge_live.ensures ∙ c.if-not-edge_live.false))
    (edge-said c.args.x c.edge_source-source.result c.edge_target-target.result c.edge_mark-mark.result (laid c.edge_label-label.result.now) _ c.edge_source-source.ensures c.edge_target-target.ensures c.edge_mark-mark.ensures c.edge_label-label.ensures.0 c.put-a.ensures c.put_number-b.ensures c.put_number-c.ensures c.put_number-d.ensures c.put_mark-e.ensures c.put_label.ensures)

pub returns-then-not-edge_live : goal.returns-then-not-edge_live
returns-then-not-edge_live c = rw (slot-free _ c.args.x _ (sym c.edge_live.ensures ∙ c.if-not-edge_live.true)) (nothing _ _ _)
