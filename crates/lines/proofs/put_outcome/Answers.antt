-- `put_outcome` meets its contract: the first line alone, or the graph behind it.
use Rattle.std.proofs.Common.{arith}
use Rattle.lines.proofs.Lines.{outcome-other, outcome-result}
use Rattle.lines.proofs.put_outcome.Goals as goal

pub put_table-end-requires : goal.put_table-end-requires
put_table-end-requires c =
    let ready = c.requires.ready c.if-answer-ne0.false in
    omega (arith, ready.room, c.requires.listing_room_in_bounds, c.put_answer-at.ensures.short)

pub put_table-requires : goal.put_table-requires
put_table-requires c =
    let ready = c.requires.ready c.if-answer-ne0.false in
    omega (arith, ready.room, c.requires.listing_room_in_bounds, c.put_answer-at.ensures.short, c.put_table-end.ensures.short)

pub returns : goal.returns
returns c =
    outcome-result c.args.l c.args.answer c.args.report.now c.args.nodes.now c.args.edges.now c.put_answer-at.ensures c.if-answer-ne0.false c.put_table-end.ensures c.put_table.ensures (c.requires.ready c.if-answer-ne0.false).room

pub returns-then-answer-ne0 : goal.returns-then-answer-ne0
returns-then-answer-ne0 c =
    outcome-other c.args.l c.args.answer c.args.report.now c.args.nodes.now c.args.edges.now c.put_answer-at.ensures c.if-answer-ne0.true
