-- `item_label` meets its contract: the first items are nodes.
use Rattle.std.proofs.Common.{List, ◌≡◌, ℕ, ◌<◌, get_or, arith}
use Rattle.meaning.specs.Laws.Loops.{first_of, second-of, of-first, of-second}
use Rattle.slots.specs.Laid.{laid}
use Rattle.plan.specs.Plan.{nodes_at}
use Rattle.agreeing.proofs.item_label.Goals as goal

pub node_label-requires : goal.node_label-requires
node_label-requires c = (first_of (λ (m : ℕ). c.args.x < m) _ _ _ _ c.if-j-plan.true c.requires.1)

pub returns-then-j-plan : goal.returns-then-j-plan
returns-then-j-plan c = (of-first (λ (m : List ℕ). laid c.node_label.result.now ≡ m) _ _ _ _ c.if-j-plan.true c.node_label.ensures.0, c.node_label.ensures.1)

pub edge_label-requires : goal.edge_label-requires
edge_label-requires c = (second-of (λ (m : ℕ). c.args.x < m) c.args.j (get_or c.args.plan.now nodes_at 0) _ _ (omega (arith, c.if-j-plan.false)) c.requires.1)

pub returns-else-j-plan : goal.returns-else-j-plan
returns-else-j-plan c = (of-second (λ (m : List ℕ). laid c.edge_label.result.now ≡ m) c.args.j (get_or c.args.plan.now nodes_at 0) _ _ (omega (arith, c.if-j-plan.false)) c.edge_label.ensures.0, c.edge_label.ensures.1)
