-- `put_graph` meets its contract: both tables and what stands around them.
use Rattle.std.proofs.Common.{arith}
use Rattle.writing.specs.Words.{letters}
use Rattle.exporting.proofs.Hosts.{few-nodes, few-edges, host-put}
use Rattle.exporting.proofs.put_graph.Goals as goal

pub put_table-b-requires : goal.put_table-b-requires
put_table-b-requires c =
    (omega (arith, few-nodes c.args.host.now.layout c.args.host.now.nodes.now c.args.host.now.edges.now c.args.host.now.legal c.requires, c.put-a.ensures.short))

pub put-c-requires : goal.put-c-requires
put-c-requires c =
    omega (arith, few-nodes c.args.host.now.layout c.args.host.now.nodes.now c.args.host.now.edges.now c.args.host.now.legal c.requires, c.put-a.ensures.short, c.put_table-b.ensures.short)

pub put_table-d-requires : goal.put_table-d-requires
put_table-d-requires c =
    (omega (arith, few-nodes c.args.host.now.layout c.args.host.now.nodes.now c.args.host.now.edges.now c.args.host.now.legal c.requires, few-edges c.args.host.now.layout c.args.host.now.nodes.now c.args.host.now.edges.now c.args.host.now.legal c.requires, c.put-a.ensures.short, c.put_table-b.ensures.short, c.put-c.ensures.short))

pub put-requires : goal.put-requires
put-requires c =
    omega (arith, few-nodes c.args.host.now.layout c.args.host.now.nodes.now c.args.host.now.edges.now c.args.host.now.legal c.requires, few-edges c.args.host.now.layout c.args.host.now.nodes.now c.args.host.now.edges.now c.args.host.now.legal c.requires, c.put-a.ensures.short, c.put_table-b.ensures.short, c.put-c.ensures.short, c.put_table-d.ensures.short)

pub returns : goal.returns
unfolding letters
returns c =
    host-put c.args.host.now.layout c.args.host.now.nodes.now c.args.host.now.edges.now c.args.host.now.legal c.requires c.put-a.ensures c.put_table-b.ensures c.put-c.ensures c.put_table-d.ensures c.put.ensures
