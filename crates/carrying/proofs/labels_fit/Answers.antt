-- `labels_fit` meets its contract: what the tests of the labels say together.
use Rattle.std.proofs.Common.{refl, ◌<◌, ◌≤◌, arith, rules, tests, length}
use Rattle.std.proofs.lemmas.Iterator.{YieldsList-from_range, cases_from_all}
use Rattle.laws.specs.Ranges.{all-below}
use Rattle.carrying.specs.Tables.{label_in}
use Rattle.carrying.proofs.Labels.{fit_told}
use Rattle.carrying.proofs.labels_fit.Goals as goal

pub returns : goal.returns
returns c =
    let a = c.args in
    let n = c.slots_in-n.result in
    let found = all-below _ _ n c.all.result
    (cases_from_all _ _ c.all.result (λ x. length (label_in a.host.now.layout a.host.now.nodes.now a.host.now.edges.now a.which x) ≤ a.most) (λ x. a.most < length (label_in a.host.now.layout a.host.now.nodes.now a.host.now.edges.now a.which x)) c.all.ensures.ran (YieldsList-from_range 0 n n refl (omega arith)) (λ x q k. search (rules, tests)) (λ x q k. search (rules, tests))) in
    fit_told a.host.now.layout a.host.now.nodes.now a.host.now.edges.now a.most a.which c.all.result (rw (← c.slots_in-n.ensures) found)
