-- `all_tests` meets its contract: the answer is yes where the closure says yes of each test.
use Rattle.std.proofs.Common.{refl, true, false, arith, rules, tests, get_or}
use Rattle.std.proofs.lemmas.Iterator.{serves_from_Range, YieldsList-from_range, cases_from_all}
use Rattle.meaning.specs.Image.{most_items}
use Rattle.meaning.specs.Layout.{host_of}
use Rattle.plan.specs.Plan.{tests_at}
use Rattle.laws.specs.Ranges.{all-below}
use Rattle.testing.proofs.Decisions.{Told, whole-test, whole-told}
use Rattle.testing.proofs.all_tests.Goals as goal

pub all-requires-clause-callable : goal.all-requires-clause-callable
all-requires-clause-callable c =
    serves_from_Range (λ x q k. search (rules, tests)) (λ x low high. let h = whole-test c.requires x (omega (arith, c.requires.trial.planned.tests)) in search (rules, h))

pub returns : goal.returns
returns c = λ w.
    let a = c.args in
    let h = host_of a.host.now.layout a.host.now.nodes.now a.host.now.edges.now in
    let n = get_or a.rule.now.plan.now tests_at 0 in
    whole-told c.all.result w
    (all-below _ _ n c.all.result
    (cases_from_all _ _ c.all.result (λ t. Told h a.rule.now.bytes.now a.rule.now.plan.now a.at.now most_items 0 t true) (λ t. Told h a.rule.now.bytes.now a.rule.now.plan.now a.at.now most_items 0 t false) c.all.ensures.ran (YieldsList-from_range 0 n n refl (omega arith)) (λ x q k. search (rules, tests)) (λ x q k. search (rules, tests))))
