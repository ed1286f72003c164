-- `put_back` meets its contract: a record that keeps to its table names a slot of it, and storing that leaves what stands behind the slots.
use Rattle.std.proofs.Common.{◌*◌, refl, arith, length}
use Rattle.meaning.specs.Layout.{node_length, edge_length}
use Rattle.journal.proofs.Records.{node-there, edge-there, put-node, put-edge, rest-stored}
use Rattle.slots.specs.Parts.{part_length}
use Rattle.journal.proofs.put_back.Goals as goal

pub put_slot-requires : goal.put_slot-requires
put_slot-requires c =
    let a = c.args in
    (node-there a.l (length a.nodes.now) (length a.edges.now) _ a.b.now c.requires.sized.node c.requires.b_value c.if-b-eq-NODE.true c.slot_number-i.ensures, part_length (2 * a.l.width) a.l.node a.b.now _ refl (omega (arith, c.requires.sized.node, c.requires.b_len)))

pub put_slot-requires-else-b-eq-NODE : goal.put_slot-requires-else-b-eq-NODE
put_slot-requires-else-b-eq-NODE c =
    let a = c.args in
    (edge-there a.l (length a.nodes.now) (length a.edges.now) _ a.b.now c.requires.sized.edge c.requires.b_value c.if-b-eq-NODE.false c.slot_number-i.ensures, part_length (2 * a.l.width) a.l.edge a.b.now _ refl (omega (arith, c.requires.sized.edge, c.requires.b_len)))

pub returns-then-b-eq-NODE : goal.returns-then-b-eq-NODE
returns-then-b-eq-NODE c =
    let a = c.args in
    let there = node-there a.l (length a.nodes.now) (length a.edges.now) _ a.b.now c.requires.sized.node c.requires.b_value c.if-b-eq-NODE.true c.slot_number-i.ensures in
    let wide = part_length (2 * a.l.width) a.l.node a.b.now _ refl (omega (arith, c.requires.sized.node, c.requires.b_len)) in
    (put-node a.l a.b.now a.nodes.now c.put_slot.new.table a.edges.now _ _ c.requires.sized.node c.if-b-eq-NODE.true c.slot_number-i.ensures refl c.put_slot.ensures.0, (rest-stored a.l.node (node_length a.l) _ _ a.nodes.now _ c.requires.sized.node there wide c.put_slot.ensures.1, refl))

pub returns-else-b-eq-NODE : goal.returns-else-b-eq-NODE
returns-else-b-eq-NODE c =
    let a = c.args in
    let there = edge-there a.l (length a.nodes.now) (length a.edges.now) _ a.b.now c.requires.sized.edge c.requires.b_value c.if-b-eq-NODE.false c.slot_number-i.ensures in
    let wide = part_length (2 * a.l.width) a.l.edge a.b.now _ refl (omega (arith, c.requires.sized.edge, c.requires.b_len)) in
    (put-edge a.l a.b.now a.nodes.now a.edges.now c.put_slot-else-b-eq-NODE.new.table _ _ c.requires.sized.edge c.if-b-eq-NODE.false c.slot_number-i.ensures refl c.put_slot-else-b-eq-NODE.ensures.0, (refl, rest-stored a.l.edge (edge_length a.l) _ _ a.edges.now _ c.requires.sized.edge there wide c.put_slot-else-b-eq-NODE.ensures.1))
