-- `read_graph` meets its contract: each part is read behind the one before it.
use Rattle.std.proofs.Common.{sym, ◌∙◌}
use Rattle.std.proofs.lemmas.Result.{err_from_is_err_and}
use Rattle.meaning.specs.Laws.Tests.{both_yes, both-no}
use Rattle.items.proofs.Whole.{graph-1, graph-2, graph-3, graph-4, graph-5, graph-6, graph-read}
use Rattle.items.proofs.read_graph.Goals as goal

pub returns-in_err-open : goal.returns-in_err-open
returns-in_err-open c =
    let p = err_from_is_err_and c.from_residual.result c.from_residual.ensures.1 in
    rw (p.1, p.2) (graph-1 _ c.args.most c.args.node_places.now c.args.edge_places.now c.in_err-open.ensures)

pub returns-in_err-nodes : goal.returns-in_err-nodes
returns-in_err-nodes c =
    let p = err_from_is_err_and c.from_residual-in_err-nodes.result c.from_residual-in_err-nodes.ensures.1 in
    rw (p.1, p.2) (graph-2 _ c.args.most c.read_items.new.places c.args.edge_places.now c.in_ok-open.ensures c.in_err-nodes.ensures)

pub returns-in_err-bar : goal.returns-in_err-bar
returns-in_err-bar c =
    let p = err_from_is_err_and c.from_residual-in_err-bar.result c.from_residual-in_err-bar.ensures.1 in
    rw (p.1, p.2) (graph-3 _ c.args.most c.read_items.new.places c.args.edge_places.now c.in_ok-open.ensures c.in_ok-nodes.nodes c.in_ok-nodes.ensures c.in_err-bar.ensures)

pub returns-in_err-edges : goal.returns-in_err-edges
returns-in_err-edges c =
    let p = err_from_is_err_and c.from_residual-in_err-edges.result c.from_residual-in_err-edges.ensures.1 in
    rw (p.1, p.2) (graph-4 _ c.args.most c.read_items.new.places c.read_items-2.new.places c.in_ok-open.ensures c.in_ok-nodes.nodes c.in_ok-nodes.ensures c.in_ok-bar.ensures c.in_err-edges.ensures)

pub returns-in_err-close : goal.returns-in_err-close
returns-in_err-close c =
    let p = err_from_is_err_and c.from_residual-in_err-close.result c.from_residual-in_err-close.ensures.1 in
    rw (p.1, p.2) (graph-5 _ c.args.most c.read_items.new.places c.read_items-2.new.places c.in_ok-open.ensures c.in_ok-nodes.nodes c.in_ok-nodes.ensures c.in_ok-bar.ensures c.in_ok-edges.edges c.in_ok-edges.ensures c.in_err-close.ensures)

pub returns-in_err-read_end : goal.returns-in_err-read_end
returns-in_err-read_end c =
    let p = err_from_is_err_and c.from_residual-in_err-read_end.result c.from_residual-in_err-read_end.ensures.1 in
    rw (p.1, p.2) (graph-6 _ c.args.most c.read_items.new.places c.read_items-2.new.places c.in_ok-open.ensures c.in_ok-nodes.nodes c.in_ok-nodes.ensures c.in_ok-bar.ensures c.in_ok-edges.edges c.in_ok-edges.ensures c.in_ok-close.ensures c.in_err-read_end.ensures)

pub returns-then-nodes : goal.returns-then-nodes
returns-then-nodes c =
    graph-read _ c.args.most c.read_items.new.places c.read_items-2.new.places c.in_ok-open.ensures c.in_ok-nodes.nodes c.in_ok-nodes.ensures c.in_ok-bar.ensures c.in_ok-edges.edges c.in_ok-edges.ensures c.in_ok-close.ensures
    c.in_ok-read_end.ensures (sym (both_yes _ _ c.if-nodes.true))

pub returns-else-nodes : goal.returns-else-nodes
returns-else-nodes c =
    graph-read _ c.args.most c.read_items.new.places c.read_items-2.new.places c.in_ok-open.ensures c.in_ok-nodes.nodes c.in_ok-nodes.ensures c.in_ok-bar.ensures c.in_ok-edges.edges c.in_ok-edges.ensures c.in_ok-close.ensures
    c.in_ok-read_end.ensures (c.if-nodes.false ∙ sym (both-no _ _ c.if-nodes.false))
