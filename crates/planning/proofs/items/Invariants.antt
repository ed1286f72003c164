-- `items` meets its contract. The loop's invariant: the items before number j are in the plan, and the others stand at the
-- place.
use Rattle.std.proofs.Common.{◌≡◌, ◌-◌, List, ℕ, take, drop}
use Rattle.meaning.specs.Image.{RuleGraph, rule_graph}
use Rattle.plan.specs.Plan.{Placed}
use Rattle.planning.proofs.Filling.{Filling}
use Rattle.planning.proofs.items.Given as goal

abbrev pub invariant-loop-field : goal.invariant-loop-field
invariant-loop-field l =
    let graph : List ℕ = take (l.end - l.start) (drop l.start l.rule) in
    (l.field-iterator.bytes.now ≡ graph) × ((g : RuleGraph) → Placed rule_graph l.rule l.start l.end g → Filling l.rule g graph l.plan l.field-iterator.place l.j l.nodes)
