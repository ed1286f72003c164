-- `put_node` meets its contract: the words of the line, one after the other, or nothing.
use Rattle.std.proofs.Common.{sym, ◌∙◌, arith}
use Rattle.slots.specs.Laid.{laid}
use Rattle.writing.specs.Words.{letters}
use Rattle.writing.specs.Laws.Rows.{nothing}
use Rattle.lines.proofs.Lines.{node-said}
use Rattle.lines.proofs.Walks.{slot-free, slot-node}
use Rattle.lines.proofs.put_node.Goals as goal

pub put_root-d-requires : goal.put_root-d-requires
put_root-d-requires c = omega (arith, c.requires.node_size_in_bounds, c.put-a.ensures.short, c.put_number-b.ensures.short, c.put_mark-c.ensures.short)

pub put_label-requires : goal.put_label-requires
put_label-requires c = record {
  label_len_bound = c.node_label-label.ensures.1;
  label_size_in_bounds = omega (arith, c.requires.node_size_in_bounds, c.put-a.ensures.short, c.put_number-b.ensures.short, c.put_mark-c.ensures.short, c.put_root-d.ensures.short);
}

pub returns : goal.returns
unfolding letters
returns c =
    rw (slot-node c.args.x _ (sym c.node_live.ensures ∙ c.if-not-node_live.false))
    (node-said c.args.x c.node_mark-mark.result c.node_root-root.result (laid c.node_label-label.result.now) _ c.node_mark-mark.ensures c.node_root-root.ensures c.node_label-label.ensures.0 c.put-a.ensures c.put_number-b.ensures c.put_mark-c.ensures c.put_root-d.ensures c.put_label.ensures)

pub returns-then-not-node_live : goal.returns-then-not-node_live
returns-then-not-node_live c = rw (slot-free _ c.args.x _ (sym c.node_live.ensures ∙ c.if-not-node_live.true)) (nothing _ _ _)
