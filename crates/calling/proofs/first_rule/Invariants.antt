-- `calling::first_rule` meets its contract. The loop's invariant: the rules before the place have no match, and the
-- plan that is lent keeps its length.
use Rattle.std.proofs.Common.{◌≡◌, length}
use Rattle.calling.proofs.Choosing.{Passed}
use Rattle.plan.specs.Plan.{plan_length}
use Rattle.calling.proofs.first_rule.Given as goal

abbrev pub invariant-loop-byte : goal.invariant-loop-byte
invariant-loop-byte l =
    Passed l.host.layout l.image l.numbers l.host.nodes.now l.host.edges.now l.byte-index × (length l.plan ≡ plan_length)
