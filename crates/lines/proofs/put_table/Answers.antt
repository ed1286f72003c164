use Rattle.std.proofs.Common.{◌≡◌, ap, ℕ, ◌+◌, ◌*◌, arith, rules}
use Rattle.writing.specs.Laws.Walks.{coming-start, coming-more, coming-end}
use Rattle.lines.specs.Tables.{line_size}
use Rattle.graph.specs.Graph.{slots_in}
use Rattle.lines.proofs.Walks.{table-next, table-end, line-room}
use Rattle.lines.proofs.put_table.Goals as goal

pub loop-x-init : goal.loop-x-init
loop-x-init c = coming-start _ _ _ _

pub put_slot-at-requires : goal.put_slot-at-requires
put_slot-at-requires c =
    let slots = slots_in c.args.host.now.layout c.args.host.now.nodes.now c.args.host.now.edges.now c.args.table in
    let loop = c.loop-x in
    record {
      x_bound = omega (arith, c.slots_in-x-end.ensures);
      table_in_bounds = omega (arith, line-room c.args.table loop.x slots (omega (arith, c.slots_in-x-end.ensures)), loop.invariant.adds.short, loop.invariant.same, c.requires);
    }

pub loop-x-preserved : goal.loop-x-preserved
loop-x-preserved c =
    let loop = c.loop-x in
    coming-more loop.invariant _ _ (line_size c.args.table * (loop.x + 1)) (table-next c.args.host.now.layout c.args.host.now.nodes.now c.args.host.now.edges.now c.args.table loop.x (omega (arith, c.slots_in-x-end.ensures))) (search rules) c.put_slot-at.ensures (line-room c.args.table loop.x (loop.x + 1) (omega arith))

pub returns : goal.returns
returns c =
    let slots = slots_in c.args.host.now.layout c.args.host.now.nodes.now c.args.host.now.edges.now c.args.table in
    let loop = c.loop-x in
    let all : loop.x ≡ slots = omega (arith, c.slots_in-x-end.ensures) in
    coming-end loop.invariant (line_size c.args.table * slots) (table-end c.args.host.now.layout c.args.host.now.nodes.now c.args.host.now.edges.now c.args.table loop.x all) (omega (arith, ap (λ (k : ℕ). line_size c.args.table * k) all))
