-- `free_from` meets its contract: what the tests of the slots say together.
use Rattle.std.proofs.Common.{◌≡◌, true, false, refl, rules, tests}
use Rattle.std.proofs.lemmas.Iterator.{YieldsList-from_range, cases_from_all}
use Rattle.carrying.specs.Tables.{live_in}
use Rattle.carrying.proofs.Free.{all-between, free_told}
use Rattle.carrying.proofs.free_from.Goals as goal

pub returns : goal.returns
returns c =
    let a = c.args in
    let end = c.slots_in-end.result in
    let found = all-between _ _ a.n end c.all.result
    (cases_from_all _ _ c.all.result (λ x. live_in a.host.now.layout a.host.now.nodes.now a.host.now.edges.now a.which x ≡ false) (λ x. live_in a.host.now.layout a.host.now.nodes.now a.host.now.edges.now a.which x ≡ true) c.all.ensures.ran (YieldsList-from_range a.n end _ refl refl) (λ x q k. search (rules, tests)) (λ x q k. search (rules, tests))) in
    free_told a.host.now.layout a.host.now.nodes.now a.host.now.edges.now a.which a.n c.all.result (rw (← c.slots_in-end.ensures) found)
