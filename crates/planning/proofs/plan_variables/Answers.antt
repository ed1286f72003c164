use Rattle.std.proofs.Common.{◌≡◌, arith, length}
use Rattle.planning.proofs.Stores.{types-count, named_more}
use Rattle.planning.proofs.Variables.{found_or}
use Rattle.planning.proofs.plan_variables.Goals as goal

pub offset_bounds-plan-v : goal.offset_bounds-plan-v
offset_bounds-plan-v c = omega (arith, types-count c.requires.laid, c.requires.laid.few_variables, c.loop-v-test.true)

pub bounds-plan-v : goal.bounds-plan-v
bounds-plan-v c = omega (arith, types-count c.requires.laid, c.requires.laid.few_variables, c.loop-v-test.true)

pub offset_bounds-plan-v-in-loop-v : goal.offset_bounds-plan-v-in-loop-v
offset_bounds-plan-v-in-loop-v c = omega (arith, types-count c.requires.laid, c.requires.laid.few_variables, c.loop-v-test.true)

pub bounds-plan-v-in-loop-v : goal.bounds-plan-v-in-loop-v
bounds-plan-v-in-loop-v c = omega (arith, types-count c.requires.laid, c.requires.laid.few_variables, c.loop-v-test.true)

pub offset_bounds-plan-v-in-loop-v-2 : goal.offset_bounds-plan-v-in-loop-v-2
offset_bounds-plan-v-in-loop-v-2 c = omega (arith, types-count c.requires.laid, c.requires.laid.few_variables, c.loop-v-test.true)

pub bounds-plan-v-in-loop-v-2 : goal.bounds-plan-v-in-loop-v-2
bounds-plan-v-in-loop-v-2 c = omega (arith, types-count c.requires.laid, c.requires.laid.few_variables, c.loop-v-test.true)

pub loop-v-preserved : goal.loop-v-preserved
loop-v-preserved c = λ r l.
    let w = c.loop-v.invariant r l in
    let e = c.unwrap_or-first.ensures in
    named_more (omega (arith, types-count l, l.few_variables, c.loop-v-test.true)) w
    (rw e (found_or r c.loop-v.v c.first_with.result _ (c.first_with.ensures r w.laid) (omega (arith, l.items.nodes, l.items.edges))))

pub returns : goal.returns
returns c = λ r l. let e : c.loop-v.v ≡ length r.variables = omega (arith, types-count l, c.loop-v-test.false) in let w = c.loop-v.invariant r l in rw e at w
