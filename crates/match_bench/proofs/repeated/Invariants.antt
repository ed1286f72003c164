-- `repeated` answers what the last round does. The loop's invariant: the plan that is lent keeps its length.
use Rattle.std.proofs.Common.{◌≡◌, length}
use Rattle.plan.specs.Plan.{plan_length}
use Rattle.match_bench.proofs.repeated.Given as goal

abbrev pub invariant-loop : goal.invariant-loop
invariant-loop l = length l.plan ≡ plan_length
