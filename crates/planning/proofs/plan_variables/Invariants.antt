-- `plan_variables` meets its contract. The loop's invariant: the plan has the first item with each variable before v,
-- and where.
use Rattle.plan.specs.Plan.{For}
use Rattle.planning.specs.Planning.{Named}
use Rattle.planning.proofs.plan_variables.Given as goal

abbrev pub invariant-loop-v : goal.invariant-loop-v
invariant-loop-v l = For l.rule l.initial.plan (λ r. Named l.rule r l.plan l.v)
