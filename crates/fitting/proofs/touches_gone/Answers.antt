-- `touches_gone` meets its contract.
use Rattle.std.proofs.Common.{refl, rules, tests, arith, eqb, get_or}
use Rattle.meaning.specs.Basics.{either}
use Rattle.plan.specs.Plan.{nodes_at}
use Rattle.laws.specs.Ranges.{any-onward-is}
use Rattle.fitting.proofs.touches_gone.Goals as goal

pub returns : goal.returns
unfolding either
returns c =
    any-onward-is (λ j. either (eqb c.args.s (get_or c.args.at.now j 0)) (eqb c.args.t (get_or c.args.at.now j 0))) (get_or c.args.plan.now nodes_at 0) _ _ _ refl
    (λ x b f k. (search rules, grind (arith, tests))) c.any.ensures.ran
