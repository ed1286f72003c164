use Rattle.std.proofs.Common.{◌≡◌, ap, ℕ, ◌+◌, ◌*◌, arith}
use Rattle.exporting.proofs.Rows.{same-room}
use Rattle.exporting.proofs.Walks.{coming-start, coming-more, coming-end}
use Rattle.exporting.specs.Putting.{item_size, item_text, items_from}
use Rattle.graph.specs.Graph.{slots_in}
use Rattle.exporting.proofs.Slots.{table-next, table-end, item_room}
use Rattle.exporting.proofs.put_table.Goals as goal

pub loop-x-init : goal.loop-x-init
loop-x-init c = coming-start _ _ _ _

pub put_slot-at-requires : goal.put_slot-at-requires
put_slot-at-requires c =
    let slots = slots_in c.args.host.now.layout c.args.host.now.nodes.now c.args.host.now.edges.now c.args.table in
    let loop = c.loop-x in
    record {
      x_bound = omega (arith, c.slots_in-n.ensures);
      table_bound = omega (arith, item_room c.args.table loop.x slots (omega (arith, c.slots_in-n.ensures)), loop.invariant.puts.short, c.requires);
    }

pub loop-x-preserved : goal.loop-x-preserved
loop-x-preserved c =
    let loop = c.loop-x in
    coming-more loop.invariant (item_text c.args.host.now.layout c.args.host.now.nodes.now c.args.host.now.edges.now c.args.table loop.x) (items_from c.args.host.now.layout c.args.host.now.nodes.now c.args.host.now.edges.now c.args.table (loop.x + 1)) (item_size c.args.table * (loop.x + 1)) (table-next c.args.host.now.layout c.args.host.now.nodes.now c.args.host.now.edges.now c.args.table loop.x (omega (arith, c.slots_in-n.ensures))) c.put_slot-at.ensures (item_room c.args.table loop.x (loop.x + 1) (omega arith))

pub shape_of-out : goal.shape_of-out
shape_of-out c = same-room c.loop-x.invariant.puts

pub returns : goal.returns
returns c =
    let slots = slots_in c.args.host.now.layout c.args.host.now.nodes.now c.args.host.now.edges.now c.args.table in
    let loop = c.loop-x in
    let all : loop.x ≡ slots = omega (arith, c.slots_in-n.ensures) in
    coming-end loop.invariant (item_size c.args.table * slots) (table-end c.args.host.now.layout c.args.host.now.nodes.now c.args.host.now.edges.now c.args.table loop.x all) (omega (arith, ap (λ (k : ℕ). item_size c.args.table * k) all))
