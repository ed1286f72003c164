-- `pattern` meets its contract: the label lies behind a node's two bytes or an edge's three.
use Rattle.std.proofs.Common.{refl, ◌+◌, ◌≤◌, length, get_or}
use Rattle.plan.specs.Plan.{start_at, end_at}
use Rattle.plan.specs.Places.{node-inside, edge-inside, item-there, node-pattern, edge-pattern}
use Rattle.plan.proofs.PlannedRule.pattern.Goals as goal
use Rattle.plan.proofs.PlannedRule.pattern.Goals.{Joined-j-self, then-j-self, else-j-self}

inside : (c : Joined-j-self)
    → (get_or c.args.self.now.plan.now (start_at + c.args.j) 0 + c.if-j-self.head ≤ get_or c.args.self.now.plan.now (end_at + c.args.j) 0) × (get_or c.args.self.now.plan.now (end_at + c.args.j) 0 ≤ length c.args.self.now.bytes.now)
inside c =
    elim c.if-j-self.branch [
      | then-j-self w ↦ rw w.head-is (node-inside c.requires w.if-j-self.true)
      | else-j-self w ↦ rw w.head-is (edge-inside c.requires w.if-j-self.false)
    ]

pub slice_bounds-result-count : goal.slice_bounds-result-count
slice_bounds-result-count c = (inside (goal.at.slice_bounds-result-count c).Joined-j-self).0

pub slice_bounds-result-start : goal.slice_bounds-result-start
slice_bounds-result-start c = (inside (goal.at.slice_bounds-result-start c).Joined-j-self).0

pub slice_bounds-result-end : goal.slice_bounds-result-end
slice_bounds-result-end c = (inside (goal.at.slice_bounds-result-end c).Joined-j-self).1

pub returns : goal.returns
returns c = λ r l.
    elim c.if-j-self.branch [
      | then-j-self w ↦ rw w.head-is (node-pattern l c.args.j _ w.if-j-self.true refl)
      | else-j-self w ↦ rw w.head-is (edge-pattern l c.args.j _ w.if-j-self.false (item-there c.requires) refl)
    ]
