-- `ledger::room` meets its contract. The free slots are counted only where more come than go: elsewhere there is room.
use Rattle.std.proofs.Common.{◌+◌, ◌≤◌, arith, length}
use Rattle.meaning.specs.Layout.{node_length, edge_length, read_nodes, read_edges}
use Rattle.meaning.specs.Applying.{free_slots}
use Rattle.ledger.specs.Changes.{quotient_le}
use Rattle.ledger.specs.Rooms.{nodes-free, edges-free, nodes-free_le, edges-free_le, records-room, lacks-nodes, lacks-edges, lacks-records, lacks-none}
use Rattle.ledger.proofs.room.Goals as goal
use Rattle.ledger.proofs.room.Goals.{else-nodes_go-nodes_come-via-then-nodes_go-nodes_come+else-free_slots-nodes_go, else-nodes_go-nodes_come-via-else-nodes_go-nodes_come, else-edges_go-edges_come-via-then-edges_go-edges_come+else-free_slots-edges_go, else-edges_go-edges_come-via-else-edges_go-edges_come, Joined-else-nodes_go-nodes_come, Joined-else-edges_go-edges_come}

nodes-fit : (c : Joined-else-nodes_go-nodes_come) → let a = c.args in a.nodes_come ≤ free_slots (read_nodes a.l a.nodes.now) + a.nodes_go
nodes-fit c =
    elim c.else-nodes_go-nodes_come.branch [
      | else-nodes_go-nodes_come-via-then-nodes_go-nodes_come+else-free_slots-nodes_go w ↦ omega (arith, nodes-free c.args.l c.requires.sized c.args.nodes.now w.free_slots.result w.free_slots.ensures)
      | else-nodes_go-nodes_come-via-else-nodes_go-nodes_come w ↦ omega arith
    ]

edges_fit : (c : Joined-else-edges_go-edges_come) → let a = c.args in a.edges_come ≤ free_slots (read_edges a.l a.edges.now) + a.edges_go
edges_fit c =
    elim c.else-edges_go-edges_come.branch [
      | else-edges_go-edges_come-via-then-edges_go-edges_come+else-free_slots-edges_go w ↦ omega (arith, edges-free c.args.l c.requires.sized c.args.edges.now w.free_slots-then-edges_go-edges_come.result w.free_slots-then-edges_go-edges_come.ensures)
      | else-edges_go-edges_come-via-else-edges_go-edges_come w ↦ omega arith
    ]

pub overflow_add-free_slots : goal.overflow_add-free_slots
overflow_add-free_slots c = omega (arith, quotient_le c.free_slots.result (length c.args.nodes.now) (node_length c.args.l) (nodes-free_le c.args.l c.requires.sized c.args.nodes.now c.free_slots.result c.free_slots.ensures), c.requires.nodes_go_bound.0)

pub returns-then-free_slots-nodes_go : goal.returns-then-free_slots-nodes_go
returns-then-free_slots-nodes_go c = lacks-nodes _ _ _ _ _ _ _ _ (omega (arith, nodes-free c.args.l c.requires.sized c.args.nodes.now c.free_slots.result c.free_slots.ensures, c.if-free_slots-nodes_go.true))

pub overflow_add-free_slots-then-edges_go-edges_come : goal.overflow_add-free_slots-then-edges_go-edges_come
overflow_add-free_slots-then-edges_go-edges_come c = omega (arith, quotient_le c.free_slots-then-edges_go-edges_come.result (length c.args.edges.now) (edge_length c.args.l) (edges-free_le c.args.l c.requires.sized c.args.edges.now c.free_slots-then-edges_go-edges_come.result c.free_slots-then-edges_go-edges_come.ensures), c.requires.nodes_go_bound.1)

pub returns-then-free_slots-edges_go : goal.returns-then-free_slots-edges_go
returns-then-free_slots-edges_go c = lacks-edges _ _ _ _ _ _ _ _ (nodes-fit (goal.at.returns-then-free_slots-edges_go c).Joined-else-nodes_go-nodes_come) (omega (arith, edges-free c.args.l c.requires.sized c.args.edges.now c.free_slots-then-edges_go-edges_come.result c.free_slots-then-edges_go-edges_come.ensures, c.if-free_slots-edges_go.true))

pub returns-then-journal-l : goal.returns-then-journal-l
returns-then-journal-l c = lacks-records _ _ _ _ _ _ _ _ (nodes-fit (goal.at.returns-then-journal-l c).Joined-else-nodes_go-nodes_come) (edges_fit (goal.at.returns-then-journal-l c).Joined-else-edges_go-edges_come) (omega (arith, records-room c.args.l c.requires.sized c.args.journal.now, c.if-journal-l.true))

pub returns : goal.returns
returns c = lacks-none _ _ _ _ _ _ _ _ (nodes-fit (goal.at.returns c).Joined-else-nodes_go-nodes_come) (edges_fit (goal.at.returns c).Joined-else-edges_go-edges_come) (omega (arith, records-room c.args.l c.requires.sized c.args.journal.now, c.if-journal-l.false))
