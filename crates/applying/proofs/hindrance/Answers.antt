-- `applying::hindrance` meets its contract: what is counted of the rule's parts is what the definitions count.
use Rattle.std.proofs.Common.{◌≡◌, ◌≤◌, ℕ, length, arith}
use Rattle.meaning.specs.Image.{Rule}
use Rattle.meaning.specs.Matching.{left_nodes, left_edges}
use Rattle.meaning.specs.Laws.Interface.{interface-left, interface-right}
use Rattle.fields.specs.Parsed.{Few, rule-few}
use Rattle.applying.specs.Application.{AtMatch}
use Rattle.applying.proofs.Checks.{records-half, too_large, lacks}
use Rattle.applying.proofs.hindrance.Goals as goal
use Rattle.applying.proofs.hindrance.Goals.{After-edge_count-count}

record Counted (r : Rule) (k n m right_nodes count : ℕ) : Type 0 where
  few : Few r
  interface : k ≡ r.interface
  left : k ≤ n
  right : k ≤ right_nodes
  nodes : n ≡ left_nodes r
  edges : m ≡ left_edges r
  new : right_nodes ≡ length r.right.nodes
  right_edges : count ≡ length r.right.edges

abbrev Here : (c : After-edge_count-count) → Type 0
Here c =
    let a = c.args in
    AtMatch a.l a.nodes.now a.edges.now a.rule.now a.slots.now a.values.now.lens a.values.now.atoms

counted : (c : After-edge_count-count) (w : Here c)
    → Counted w.tree c.interface_of-k.result c.node_count-n.result c.edge_count-m.result c.node_count-right_nodes.result c.edge_count-count.result
counted c w =
    let l = c.left_part-left.ensures _ w.is in
    let r = c.right_part-right.ensures _ w.is in
    let k = c.interface_of-k.ensures _ w.is in
    let n = c.node_count-n.ensures.fact _ l in
    let x = c.node_count-right_nodes.ensures.fact _ r in
    record {
      few = rule-few _ _ w.is;
      interface = k;
      left = omega (arith, interface-left _ w.legal.holds);
      right = omega (arith, interface-right _ w.legal.holds);
      nodes = n;
      edges = c.edge_count-m.ensures _ l n;
      new = x;
      right_edges = c.edge_count-count.ensures _ r x;
    }

pub overflow_sub-new : goal.overflow_sub-new
overflow_sub-new c =
    let w = c.requires.at_match in
    omega (arith, c.interface_of-k.ensures _ w.is, c.node_count-right_nodes.ensures.fact _ (c.right_part-right.ensures _ w.is), interface-right _ w.legal.holds)

pub overflow_sub-n : goal.overflow_sub-n
overflow_sub-n c = let t = counted (goal.at.overflow_sub-n c).After-edge_count-count c.requires.at_match in omega arith

pub overflow_add-all : goal.overflow_add-all
overflow_add-all c = let t = counted (goal.at.overflow_add-all c).After-edge_count-count c.requires.at_match in let f = t.few in omega arith

pub overflow_add-all-2 : goal.overflow_add-all-2
overflow_add-all-2 c = let t = counted (goal.at.overflow_add-all-2 c).After-edge_count-count c.requires.at_match in let f = t.few in omega arith

pub overflow_add-all-3 : goal.overflow_add-all-3
overflow_add-all-3 c = let t = counted (goal.at.overflow_add-all-3 c).After-edge_count-count c.requires.at_match in let f = t.few in omega arith

pub overflow_add-all-4 : goal.overflow_add-all-4
overflow_add-all-4 c =
    let t = counted (goal.at.overflow_add-all-4 c).After-edge_count-count c.requires.at_match in
    let f = t.few in
    omega (arith, records-half c.args.l c.args.journal.now c.args.used c.requires.running.held.room)

pub room-requires-clause-nodes_go_bound : goal.room-requires-clause-nodes_go_bound
room-requires-clause-nodes_go_bound c =
    let t = counted (goal.at.room-requires-clause-nodes_go_bound c).After-edge_count-count c.requires.at_match in
    let f = t.few in
    (omega arith, omega arith)

pub returns-then-not-labels_held : goal.returns-then-not-labels_held
returns-then-not-labels_held c = λ w.
    too_large w c.args.journal.now c.args.used (c.labels_held.ensures _ (c.right_part-right.ensures _ w.is)) c.if-not-labels_held.true

pub returns : goal.returns
returns c = λ w.
    let t = counted (goal.at.returns c).After-edge_count-count w in
    lacks w c.args.journal.now c.args.used (c.labels_held.ensures _ (c.right_part-right.ensures _ w.is)) c.if-not-labels_held.false _
    (omega arith) (omega arith) t.right_edges t.edges (omega arith) c.room.ensures
